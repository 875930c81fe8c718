-- How events are spelled, and how long that is.
use Rattle.std.proofs.Common.{◌≡◌, ℕ, zero, suc, ◌+◌, ◌^◌, ◌<◌, ◌≤◌, List, [], ◌∷◌, ◌++◌, length, take, get_or, refl, sym, ap, ◌∙◌, arith, Bool, true, false, true≢false, nat_lt, ◌==◌, append_assoc, append-nil, length-append}
use Rattle.std.proofs.Math.Bool.{and-false}
use Rattle.std.proofs.lemmas.Bool.{ne_eqb}
use Rattle.std.proofs.lemmas.List.{take_more}
use Rattle.tab_term.specs.Canon.{atom_tag, atom_length_field, list_tag, list_contents, length_field, canon, canons}
use Rattle.tab_term.specs.Data.{atom, list, PlainTerms, none, count}
use Rattle.tab_lists.specs.declared.events.EventTerm.{EventTerm}
use Rattle.tab_lists.specs.EventTerms.{event_term, event_terms}
use Rattle.tab_lists.proofs.EventsLemmas.{no_bytes}
use Rattle.tab_etf.proofs.CanonLemmas.{list_others}

-- ---- the parts

pub atom_canon : (s : List ℕ) → atom_tag (length s) ∷ atom_length_field (length s) ++ s ≡ canon (atom s)
unfolding canon
atom_canon s = refl

pub list_canon : (ts : PlainTerms) → list_tag ts ∷ list_contents ts (canons ts) ≡ canon (list ts)
unfolding canon
list_canon ts = refl

-- ---- a list

-- there are events, or there are none
pub some_in : (es : List EventTerm) {b : Bool} → b ≡ (length es == 0) → b ≡ false → 0 < length es
some_in [] e f = absurd (true≢false (sym e ∙ f))
some_in (x ∷ xs) e f = omega arith

pub none_in : (es : List EventTerm) {b : Bool} → b ≡ (length es == 0) → b ≡ true → none ≡ event_terms es
none_in [] e f = refl
none_in (x ∷ xs) e f = absurd (true≢false (sym f ∙ e ∙ ne_eqb (length (x ∷ xs)) 0 (omega arith)))

-- one event and more are written as a list, and not as a string
pub tag_is : (e : EventTerm) (es : List EventTerm) → list_tag (event_terms (e ∷ es)) ≡ 108
tag_is e es =
    let u : (suc (count (event_terms es)) == 0) ≡ false = ne_eqb _ _ (omega arith) in
    rw (no_bytes e es, and-false (nat_lt (suc (count (event_terms es))) (2 ^ 16)), u) refl

pub some_spelled : (es : List EventTerm) → 0 < length es → canon (list (event_terms es)) ≡ 108 ∷ length_field (count (event_terms es)) ++ canons (event_terms es) ++ 106 ∷ []
unfolding canon
some_spelled [] h = absurd (omega (arith, h))
some_spelled (x ∷ xs) h = list_others (event_terms (x ∷ xs)) (λ e. absurd (omega (arith, e, tag_is x xs))) (λ e. absurd (omega (arith, e, tag_is x xs)))

pub some_length : (es : List EventTerm) → 0 < length es → length (canon (list (event_terms es))) ≡ 2 + length (length_field (count (event_terms es))) + length (canons (event_terms es))
some_length es h =
    omega (
      arith,
      ap length (some_spelled es h),
      length-append (length_field (count (event_terms es)) ++ canons (event_terms es)) (106 ∷ []),
      length-append (length_field (count (event_terms es))) (canons (event_terms es)),
    )

-- ---- one event more

canons-push : (es : List EventTerm) (e : EventTerm) → canons (event_terms (es ++ e ∷ [])) ≡ canons (event_terms es) ++ canon (event_term e)
unfolding canon
canons-push [] e = append-nil (canon (event_term e))
canons-push (x ∷ xs) e = ap (λ (r : List ℕ). canon (event_term x) ++ r) (canons-push xs e) ∙ sym (append_assoc (canon (event_term x)) (canons (event_terms xs)) (canon (event_term e)))

pub events_next : (es : List EventTerm) (i : ℕ) (e : EventTerm) → i < length es → e ≡ get_or es i e → canons (event_terms (take (i + 1) es)) ≡ canons (event_terms (take i es)) ++ canon (event_term e)
events_next es i e lt is = ap (λ xs. canons (event_terms xs)) (take_more es i e lt) ∙ canons-push (take i es) (get_or es i e) ∙ ap (λ x. canons (event_terms (take i es)) ++ canon (event_term x)) (sym is)

pub events_more : (es : List EventTerm) (i : ℕ) (e : EventTerm) → i < length es → e ≡ get_or es i e → length (canons (event_terms (take (i + 1) es))) ≡ length (canons (event_terms (take i es))) + length (canon (event_term e))
events_more es i e lt is = ap length (events_next es i e lt is) ∙ length-append (canons (event_terms (take i es))) (canon (event_term e))

-- an event is no longer than all
pub event_within : (es : List EventTerm) (i : ℕ) (e : EventTerm) → i < length es → e ≡ get_or es i e → length (canon (event_term e)) ≤ length (canons (event_terms es))
unfolding canon
event_within [] i e h is = absurd (omega (arith, h))
event_within (x ∷ xs) zero e h is = rw is (omega (arith, length-append (canon (event_term x)) (canons (event_terms xs))))
event_within (x ∷ xs) (suc i) e h is = omega (arith, event_within xs i e (omega (arith, h)) is, length-append (canon (event_term x)) (canons (event_terms xs)))
