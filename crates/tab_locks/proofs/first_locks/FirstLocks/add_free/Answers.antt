use Rattle.std.proofs.Common.{◌≡◌, sym, ap, ◌∙◌, subst, ◌||◌, ◌==◌, true, false, IfOk, OnOk, IsTrue, IsFalse}
use Rattle.std.specs.List.{list_any}
use Rattle.tab_term.specs.Abbreviations.{number}
use Rattle.tab_term.specs.Same.{same}
use Rattle.tab_term.specs.View.{term}
use Rattle.tab_locks.specs.Members.{HasMore}
use Rattle.tab_locks.specs.Numbered.{first_spots, holds}
use Rattle.tab_locks.specs.Spots.{KeySpot}
use Rattle.tab_locks.proofs.FirstLocks.{numbered_put, held_more, taken_beside, free_before, free_beside}
use Rattle.tab_locks.proofs.first_locks.FirstLocks.add_free.Goals as goal
use Rattle.tab_locks.proofs.first_locks.FirstLocks.add_free.Goals.{in-Nothing, in-AnotherKey, in-Itself}

pub invariant_of-self-2 : goal.invariant_of-self-2
invariant_of-self-2 c = record {
  apart = c.in_ok-place.ensures.apart;
  under = numbered_put c.args.key.now (c.args.age, c.args.write) c.args.number c.in_ok-place.field-0 c.self.inside.locks c.place.new.self c.requires c.in_ok-place.ensures.put c.self.invariant.under;
}

pub returns-clause-more : goal.returns-clause-more
returns-clause-more c =
    let k = c.args.key.now in
    let old = c.args.self.now in
    let new = first_spots c.place.new.self in
    elim c.match-branch-2.branch [
      | in-Nothing w ↦ subst (λ x. IfOk x (λ b. b ≡ true → HasMore {X = KeySpot} (term k, (c.args.age, c.args.write)) old new)) (sym w.result-is)
          (λ t p. held_more k (c.args.age, c.args.write) c.args.number c.self.inside.locks c.in_ok-place.field-0 c.place.new.self c.requires c.in_ok-place.ensures.met c.in_ok-place.ensures.put (ap holds w.in-Nothing.is) p
          ∙ (λ i. p (term k, (c.args.age, c.args.write)) || list_any p (c.self.view_is i)))
      | in-AnotherKey w ↦ subst (λ x. IfOk x (λ b. b ≡ true → HasMore {X = KeySpot} (term k, (c.args.age, c.args.write)) old new)) (sym w.result-is) (λ t. absurd cc)
      | in-Itself w ↦ subst (λ x. IfOk x (λ b. b ≡ true → HasMore {X = KeySpot} (term k, (c.args.age, c.args.write)) old new)) (sym w.result-is) tt
    ]

pub returns-clause-tied : goal.returns-clause-tied
returns-clause-tied c =
    let some = λ (s : KeySpot). number s.0 == c.args.number in
    elim c.match-branch-2.branch [
      | in-Nothing w ↦ subst (λ x. IfOk x (λ b. b ≡ false → IsTrue (list_any some c.args.self.now))) (sym w.result-is) (λ f. absurd cc)
      | in-AnotherKey w ↦ subst (λ x. IfOk x (λ b. b ≡ false → IsTrue (list_any some c.args.self.now))) (sym w.result-is)
          (λ f. ap (list_any some) (sym c.self.view_is)
          ∙ taken_beside c.args.key.now (c.args.age, c.args.write) c.args.number c.self.inside.locks c.self.invariant.under (sym w.in-AnotherKey.is ∙ c.in_ok-place.ensures.met))
      | in-Itself w ↦ subst (λ x. IfOk x (λ b. b ≡ false → IsTrue (list_any some c.args.self.now))) (sym w.result-is) tt
    ]

pub returns-clause-free : goal.returns-clause-free
returns-clause-free c =
    let k = c.args.key.now in
    let its = λ (s : KeySpot). same (term k) s.0 in
    elim c.match-branch-2.branch [
      | in-Nothing w ↦ subst (λ x. OnOk x (IsFalse (list_any its c.args.self.now))) (sym w.result-is)
          (ap (list_any its) (sym c.self.view_is)
          ∙ free_before k (c.args.age, c.args.write) c.args.number c.self.inside.locks c.self.invariant.apart c.self.invariant.under c.requires (sym w.in-Nothing.is ∙ c.in_ok-place.ensures.met))
      | in-AnotherKey w ↦ subst (λ x. OnOk x (IsFalse (list_any its c.args.self.now))) (sym w.result-is)
          (ap (list_any its) (sym c.self.view_is)
          ∙ free_beside k (c.args.age, c.args.write) c.args.number c.self.inside.locks c.self.invariant.apart c.self.invariant.under c.requires (sym w.in-AnotherKey.is ∙ c.in_ok-place.ensures.met))
      | in-Itself w ↦ subst (λ x. OnOk x (IsFalse (list_any its c.args.self.now))) (sym w.result-is) tt
    ]
