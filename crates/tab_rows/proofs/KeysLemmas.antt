-- The keys of a table's records.
use Rattle.std.proofs.Common.{◌≡◌, List, [], ◌∷◌, ◌++◌, Bool, true, false, not, refl, sym, ap, ◌∙◌, Less, Equal}
use Rattle.std.specs.Prelude.{◌≢◌, if◌then◌else◌}
use Rattle.std.specs.List.{filter, list_all}
use Rattle.std.proofs.lemmas.Bool.{and_parts}
use Rattle.tab_term.specs.declared.term.Term.{Term}
use Rattle.tab_term.specs.Data.{PlainTerm, PlainTerms, none, one_more}
use Rattle.tab_term.specs.Order.{term_cmp}
use Rattle.tab_term.specs.Same.{same}
use Rattle.tab_term.specs.View.{term}
use Rattle.tab_term.proofs.Total.{term_total}
use Rattle.tab_map.specs.Entries.{AllAbove, Ascends}
use Rattle.tab_lists.specs.ByKey.{is_filled, filled_keys}
use Rattle.tab_model.specs.Names.{terms_list}
use Rattle.tab_model.specs.Tables.{Rows, key, has_key, keys}
use Rattle.tab_model.proofs.TableLaws.{same_true, same_refl}
use Rattle.tab_rows.specs.Joined.{Entry, joined, IsKeyed, AllKeyed, IsInOrder}

-- the keys of entries
abbrev pub plain_keys : List Entry → Rows
plain_keys [] = []
plain_keys (e ∷ es) = term e.0 ∷ plain_keys es

apart_keys : (k j : Term) → term_cmp k j ≡ Less → same (term k) (term j) ≡ false
apart_keys k j h = cases (same (term k) (term j)) refl
  where
    cases : (b : Bool) → same (term k) (term j) ≡ b → b ≡ false
    cases false e = refl
    cases true e = let n : Less ≡ Equal = sym h ∙ ap (λ z. Rattle.std.specs.Cmp.Lexicographic.slice_cmp Rattle.std.specs.Ordering.nat_cmp (Rattle.tab_term.specs.Canon.canon (term k)) (Rattle.tab_term.specs.Canon.canon z)) (sym (same_true (term k) (term j) e)) ∙ Rattle.std.proofs.lemmas.Cmp.tied_itself term_total k in cc

keys_apart : (k : Term) (es : List Entry) → AllAbove term_cmp k es → filter (λ j. not (same (term k) j)) (plain_keys es) ≡ plain_keys es
keys_apart k [] a = refl
keys_apart k (e ∷ es) a = ap (λ b. if not b then term e.0 ∷ filter (λ j. not (same (term k) j)) (plain_keys es) else filter (λ j. not (same (term k) j)) (plain_keys es)) (apart_keys k e.0 a.0) ∙ ap (λ z. term e.0 ∷ z) (keys_apart k es a.1)

keys_part : (k : Term) (x : PlainTerm) (xs : Rows) (es : List Entry) → list_all (has_key (term k)) (x ∷ xs) ≡ true → AllAbove term_cmp k es → keys (joined es) ≡ plain_keys es → keys (x ∷ xs ++ joined es) ≡ term k ∷ plain_keys es
keys_part k x [] es h a e =
    let p = and_parts (has_key (term k) x) true h in
    ap (λ z. z ∷ filter (λ j. not (same z j)) (keys (joined es))) (same_true (key x) (term k) p.0) ∙ ap (λ z. term k ∷ filter (λ j. not (same (term k) j)) z) e ∙ ap (λ z. term k ∷ z) (keys_apart k es a)
keys_part k x (y ∷ xs) es h a e =
    let p = and_parts (has_key (term k) x) (list_all (has_key (term k)) (y ∷ xs)) h in
    ap (λ z. z ∷ filter (λ j. not (same z j)) (keys (y ∷ xs ++ joined es))) (same_true (key x) (term k) p.0) ∙ ap (λ z. term k ∷ filter (λ j. not (same (term k) j)) z) (keys_part k y xs es p.1 a e)
    ∙ ap (λ b. term k ∷ (if not b then term k ∷ filter (λ j. not (same (term k) j)) (plain_keys es) else filter (λ j. not (same (term k) j)) (plain_keys es))) (same_refl (term k))
    ∙ ap (λ z. term k ∷ z) (keys_apart k es a)

keys_first : (e : Entry) (es : List Entry) (rs : Rows) → terms_list e.1 ≡ rs → IsKeyed e → AllAbove term_cmp e.0 es → keys (joined es) ≡ plain_keys es → keys (rs ++ joined es) ≡ term e.0 ∷ plain_keys es
keys_first e es [] h k a f = absurd (k.filled h)
keys_first e es (x ∷ xs) h k a f = keys_part e.0 x xs es (ap (list_all (has_key (term e.0))) (sym h) ∙ k.keyed) a f

pub keys_joined : (es : List Entry) → Ascends term_cmp es → AllKeyed es → keys (joined es) ≡ plain_keys es
keys_joined [] s k = refl
keys_joined (e ∷ es) s k = keys_first e es (terms_list e.1) refl k.0 s.0 (keys_joined es s.1 k.1)

filled_at : (ts : PlainTerms) → terms_list ts ≢ [] → is_filled ts ≡ true
filled_at none h = absurd (h refl)
filled_at (one_more t ts) h = refl

all_filled : (es : List Entry) → AllKeyed es → filled_keys es ≡ plain_keys es
all_filled [] k = refl
all_filled (e ∷ es) k = ap (λ b. if b then term e.0 ∷ filled_keys es else filled_keys es) (filled_at e.1 k.0.filled) ∙ ap (λ z. term e.0 ∷ z) (all_filled es k.1)

pub keys_of_entries : (es : List Entry) → IsInOrder es → filled_keys es ≡ keys (joined es)
keys_of_entries es o = all_filled es o.keyed ∙ sym (keys_joined es o.ascends o.keyed)
