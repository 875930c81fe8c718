use Rattle.std.proofs.Common.{[], ◌∷◌, ◌++◌, length, sym, ap, ◌∙◌, subst, arith}
use Rattle.tab_map.specs.Entries.{Ascends}
use Rattle.tab_map.proofs.SplitLemmas.{spread_one}
use Rattle.tab_map.proofs.Map.try_grow.Goals as goal

pub returns : goal.returns
returns g c =
    let e = c.push_reserved.ensures.items ∙ ap (λ z. z ++ c.in_ok-half.half ∷ []) (ap (λ v. v.branches.items) c.in-Some.ensures.value ∙ ap (λ v. v.items) c.in_ok-root.ensures ∙ c.in_ok-with_capacity.ensures.items) in
    spread_one _ c.replace.result _ e ∙ ap (λ z. c.in_ok-half.half.below ++ c.in_ok-half.half.entry ∷ z) c.replace.ensures.value ∙ sym c.in_ok-half.ensures.ok

pub invariant_of-self : goal.invariant_of-self
invariant_of-self g c =
    let e = c.push_reserved.ensures.items ∙ ap (λ z. z ++ c.in_ok-half.half ∷ []) (ap (λ v. v.branches.items) c.in-Some.ensures.value ∙ ap (λ v. v.items) c.in_ok-root.ensures ∙ c.in_ok-with_capacity.ensures.items) in
    let w = spread_one _ c.replace.result _ e ∙ ap (λ z. c.in_ok-half.half.below ++ c.in_ok-half.half.entry ∷ z) c.replace.ensures.value ∙ sym c.in_ok-half.ensures.ok in
    (subst (Ascends g.K.Ord.cmp) (sym w) c.in_ok-half.ensures.ascends, omega (arith, ap length e))
