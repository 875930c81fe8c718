-- The events that a session is due, one after another.
use Rattle.std.proofs.Common.{◌≡◌, ◌≢◌, ◌+◌, ℕ, zero, suc, ◌<◌, ◌≤◌, List, [], ◌∷◌, ◌++◌, refl, sym, ap, ◌∙◌, drop, length, get_or, set, arith, add-one}
use Rattle.std.specs.Prelude.{Option, Some, filter_map}
use Rattle.std.proofs.lemmas.List.{append_assoc, append-nil}
use Rattle.std.proofs.Math.Seq.{drop-cons}
use Rattle.tab_term.specs.Data.{PlainTerm, PlainTerms, none, one_more, count, terms_list}
use Rattle.tab_model.specs.declared.data.Event.{Event}
use Rattle.tab_model.specs.declared.data.Item.TheVariants.{Batch}
use Rattle.tab_model.specs.Names.{plain_terms}
use Rattle.tab_model.specs.Slices.{as_batch}

pub set_same : {X : Type 0} (xs : List X) (i : ℕ) (y d : X) → y ≡ get_or xs i d → set xs i y ≡ xs
set_same [] i y d e = refl
set_same (x ∷ xs) zero y d e = ap (λ z. z ∷ xs) e
set_same (x ∷ xs) (suc i) y d e = ap (λ z. x ∷ z) (set_same xs i y d e)

given_first : (f : Event → Option PlainTerm) (e : Event) (es : List Event) (x : PlainTerm) → f e ≡ Some x → filter_map f (e ∷ es) ≡ x ∷ filter_map f es
given_first f e es x h = rw h refl

pub event_told : (f : Event → Option PlainTerm) (es : List Event) (i : ℕ) (e : Event) (ts us : List PlainTerm) (t : PlainTerm) → i < length es → e ≡ get_or es i e → f e ≡ Some t → us ≡ ts ++ t ∷ []
    → us ++ filter_map f (drop (i + 1) es) ≡ ts ++ filter_map f (drop i es)
event_told f es i e ts us t lt is h new =
    ap (λ z. z ++ filter_map f (drop (i + 1) es)) new
    ∙ append_assoc ts (t ∷ []) (filter_map f (drop (i + 1) es))
    ∙ ap (λ k. ts ++ (t ∷ filter_map f (drop k es))) (add-one i)
    ∙ ap (λ z. ts ++ z) (sym (given_first f e (drop (suc i) es) t h))
    ∙ ap (λ z. ts ++ filter_map f z) (ap (λ z. z ∷ drop (suc i) es) is ∙ sym (drop-cons es i e lt))

batch_of : (n : ℕ) (ts : List PlainTerm) → length ts ≢ 0 → as_batch n ts ≡ Batch n (plain_terms ts) ∷ []
batch_of n [] h = absurd (h refl)
batch_of n (t ∷ ts) h = refl

all_dropped : {X : Type 0} (xs : List X) (i : ℕ) → length xs ≤ i → drop i xs ≡ []
all_dropped [] zero le = refl
all_dropped [] (suc i) le = refl
all_dropped (x ∷ xs) zero le = absurd (omega arith)
all_dropped (x ∷ xs) (suc i) le = all_dropped xs i (omega arith)

pub batch_told : (n : ℕ) (f : Event → Option PlainTerm) (es : List Event) (i : ℕ) (ts : List PlainTerm) (x : PlainTerms) → length es ≤ i → length ts ≢ 0 → x ≡ plain_terms ts
    → ts ++ filter_map f (drop i es) ≡ filter_map f es → Batch n x ∷ [] ≡ as_batch n (filter_map f es)
batch_told n f es i ts x le some e told =
    ap (λ z. Batch n z ∷ []) e ∙ sym (batch_of n ts some)
    ∙ ap (as_batch n) (sym (append-nil ts) ∙ ap (λ z. ts ++ filter_map f z) (sym (all_dropped es i le)) ∙ told)

-- no event was told
pub none_told : (n : ℕ) (f : Event → Option PlainTerm) (es : List Event) (i : ℕ) (ts : List PlainTerm) → length es ≤ i → length ts ≡ 0
    → ts ++ filter_map f (drop i es) ≡ filter_map f es → [] ≡ as_batch n (filter_map f es)
none_told n f es i [] le empty told = ap (as_batch n) (ap (filter_map f) (sym (all_dropped es i le)) ∙ told)
none_told n f es i (t ∷ ts) le empty told = absurd (omega (arith, empty))

pub count-list : (ts : PlainTerms) → count ts ≡ length (terms_list ts)
count-list none = refl
count-list (one_more t ts) = ap suc (count-list ts)

-- all that was to be made of a list, at the end
pub all_made : {X Y : Type 0} (f : List X → List Y) (made : List Y) (xs : List X) (i : ℕ) → f [] ≡ [] → length xs ≤ i → made ++ f (drop i xs) ≡ f xs → made ≡ f xs
all_made f made xs i none_of le h = sym (append-nil made) ∙ ap (λ z. made ++ z) (sym (ap f (all_dropped xs i le) ∙ none_of)) ∙ h
