use Rattle.std.proofs.Common.{◌≡◌, ℕ, suc, zero, ◌<◌, ◌≤◌, List, [], ◌∷◌, length, get_or, refl, sym, ap, ◌∙◌, arith}
use Rattle.tab_term.specs.declared.term.Term.{Term}
use Rattle.tab_term.specs.Data.{list, none}
use Rattle.tab_term.specs.Same.{same}
use Rattle.tab_term.specs.View.{term, terms}
use Rattle.tab_term.specs.Tuples.{nth}
use Rattle.tab_lists.proofs.condition.has_value.Goals as goal

nth_there : (xs : List Term) (n : ℕ) (d : Term) → n < length xs → nth n (terms xs) ≡ term (get_or xs n d)
nth_there [] n d h = absurd (omega (arith, h))
nth_there (x ∷ xs) zero d h = refl
nth_there (x ∷ xs) (suc n) d h = nth_there xs n d (omega (arith, h))

nth_past : (xs : List Term) (n : ℕ) → length xs ≤ n → nth n (terms xs) ≡ list none
nth_past [] n h = refl
nth_past (x ∷ xs) zero h = absurd (omega (arith, h))
nth_past (x ∷ xs) (suc n) h = nth_past xs n (omega (arith, h))

pub returns-in-Some : goal.returns-in-Some
returns-in-Some c =
    let found = c.in-Some.ensures.lookup in
    c.eq.ensures
    ∙ ap (λ t. same t (term c.args.value.now)) (ap term found.1 ∙ sym (nth_there c.elements.result.now c.saturating_sub.result c.in-Some.found.now found.3.0) ∙ ap (λ n. nth n (terms c.elements.result.now)) c.saturating_sub.ensures ∙ c.elements.ensures c.args.position)

pub returns-in-None : goal.returns-in-None
returns-in-None c =
    c.is_nil.ensures
    ∙ ap (λ t. same t (term c.args.value.now)) (sym (nth_past c.elements.result.now c.saturating_sub.result c.in-None.ensures.lookup.3) ∙ ap (λ n. nth n (terms c.elements.result.now)) c.saturating_sub.ensures ∙ c.elements.ensures c.args.position)
