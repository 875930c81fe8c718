-- Attributes that are put into a map of positions, from the last to the first.
use Rattle.std.proofs.Common.{◌≡◌, ◌≤◌, ℕ, suc, ◌+◌, arith, add-one, drop, get_or, length, subst, List, ◌∷◌, Bool, true, false, ◌||◌, refl, sym, ap, ◌∙◌, Some, Ordering, Less, Equal, Greater, pos}
use Rattle.std.specs.Prelude.{if◌then◌else◌}
use Rattle.std.proofs.Math.Seq.{drop-cons}
use Rattle.std.specs.Ordering.{match_ordering, is_eq}
use Rattle.tab_term.specs.Data.{int, atom}
use Rattle.tab_term.specs.Order.{term_cmp}
use Rattle.tab_term.specs.OrderLaws.{matches_same}
use Rattle.tab_term.specs.Same.{same}
use Rattle.tab_term.specs.View.{term}
use Rattle.tab_term.specs.declared.term.Term.{Term}
use Rattle.tab_term.proofs.Total.{term_total}
use Rattle.tab_map.specs.Entries.{lookup, insert_entry, Ascends}
use Rattle.tab_map.proofs.AscendsLemmas.{ascends_insert}
use Rattle.tab_records.proofs.LookUps.{lookup_insert}
use Rattle.tab_model.specs.Definitions.{position_from}
use Rattle.tab_schema.specs.Positions.{AreNamed}

found : (k t : Term) (v : ℕ) (m : List (Term × ℕ)) → Ascends term_cmp m → lookup term_cmp t (insert_entry term_cmp (k, v) m) ≡ (if same (term t) (term k) then Some v else lookup term_cmp t m)
found k t v m s = lookup_insert term_total (k, v) m t s ∙ cases (term_cmp t k) ∙ ap (λ b. if b then Some v else lookup term_cmp t m) (sym (matches_same (term t) (term k)))
  where
    cases : (o : Ordering) → match_ordering o (lookup term_cmp t m) (Some v) (lookup term_cmp t m) ≡ (if is_eq o then Some v else lookup term_cmp t m)
    cases Less = refl
    cases Equal = refl
    cases Greater = refl

pub one_more : (p : ℕ) (name : List ℕ) (names : List (List ℕ)) (m : List (Term × ℕ)) (x y : Term) → term x ≡ atom name → term y ≡ int (pos p) → Ascends term_cmp m → AreNamed (p + 1) names m
    → AreNamed p (name ∷ names) (insert_entry term_cmp (x, p) (insert_entry term_cmp (y, p) m))
one_more p name names m x y name_is number_is s h t =
    found x t p (insert_entry term_cmp (y, p) m) (ascends_insert term_total (y, p) m s)
    ∙ ap (λ z. if same (term t) (term x) then Some p else z) (found y t p m s)
    ∙ ap (λ z. if same (term t) (term x) then Some p else (if same (term t) (term y) then Some p else z)) (h t)
    ∙ ap (λ k. if same (term t) k then Some p else (if same (term t) (term y) then Some p else position_from (p + 1) names (term t))) name_is
    ∙ ap (λ k. if same (term t) (atom name) then Some p else (if same (term t) k then Some p else position_from (p + 1) names (term t))) number_is
    ∙ either (same (term t) (atom name)) (same (term t) (int (pos p)))
  where
    either : (a b : Bool) → (if a then Some p else (if b then Some p else position_from (p + 1) names (term t))) ≡ (if a || b then Some p else position_from (p + 1) names (term t))
    either true b = refl
    either false b = refl

-- the attribute before those that are in the map
pub one_before : (names : List (List ℕ)) (n i : ℕ) (name : List ℕ) (m : List (Term × ℕ)) (x y : Term) → i + 1 ≡ n → n ≤ length names → name ≡ get_or names i name → term x ≡ atom name → term y ≡ int (pos (i + 3))
    → Ascends term_cmp m → AreNamed (n + 3) (drop n names) m
    → Ascends term_cmp (insert_entry term_cmp (x, i + 3) (insert_entry term_cmp (y, i + 3) m)) × AreNamed (i + 3) (drop i names) (insert_entry term_cmp (x, i + 3) (insert_entry term_cmp (y, i + 3) m))
one_before names n i name m x y next within is name_is number_is s h = (
  ascends_insert term_total (x, i + 3) (insert_entry term_cmp (y, i + 3) m) (ascends_insert term_total (y, i + 3) m s),
  subst (λ ns. AreNamed (i + 3) ns (insert_entry term_cmp (x, i + 3) (insert_entry term_cmp (y, i + 3) m))) (sym (drop-cons names i name (omega (arith, within, next)) ∙ ap (λ z. z ∷ drop (suc i) names) (sym is)))
      (one_more (i + 3) name (drop (suc i) names) m x y name_is number_is s rest),
)
  where
    rest : AreNamed (i + 3 + 1) (drop (suc i) names) m
    rest = subst (λ p. AreNamed p (drop (suc i) names) m) (omega arith) (subst (λ k. AreNamed (k + 3) (drop k names) m) (sym (sym (add-one i) ∙ next)) h)
