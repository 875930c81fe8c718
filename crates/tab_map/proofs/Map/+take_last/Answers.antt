use Rattle.std.proofs.Common.{◌≡◌, ◌≤◌, length, [], ◌∷◌, ◌++◌, refl, sym, ap, ◌∙◌, subst, arith}
use Rattle.std.proofs.lemmas.Bool.{eqb-true, eqb-false}
use Rattle.tab_map.specs.Entries.{Ascends}
use Rattle.tab_map.specs.InOrder.{spread, node_entries, entries}
use Rattle.tab_map.proofs.AscendsLemmas.{ascends_front}
use Rattle.tab_map.proofs.SpreadLemmas.{is_root}
use Rattle.tab_map.proofs.RemovalLemmas.{taken_ascends, last_ascends, last_child_taken, taken_as, alone}
use Rattle.tab_map.proofs.Map.+take_last.Goals as goal

pub take_last-invariant_of-self-in-Leaf : goal.take_last-invariant_of-self-in-Leaf
take_last-invariant_of-self-in-Leaf g t c =
    let old = subst (λ r. Ascends g.K.Ord.cmp (entries r)) c.in-Leaf.is c.self.invariant.0 in
    let same = ap (λ v. v.items) c.in-Some.ensures.value ∙ c.in_ok-own_items-in-Leaf.ensures in
    (ascends_front g.K.Ord.cmp _ _ (subst (Ascends g.K.Ord.cmp) (sym same ∙ c.pop.ensures.items) old), tt)

pub take_last-returns-in-Some-clause-ascends : goal.take_last-returns-in-Some-clause-ascends
take_last-returns-in-Some-clause-ascends g t c =
    let old = subst (λ r. Ascends g.K.Ord.cmp (entries r)) c.in-Leaf.is c.self.invariant.0 in
    let same = ap (λ v. v.items) c.in-Some.ensures.value ∙ c.in_ok-own_items-in-Leaf.ensures in
    ascends_front g.K.Ord.cmp _ _ (subst (Ascends g.K.Ord.cmp) (sym same ∙ c.pop.ensures.items) old)

pub take_last-invariant_of-self-then-not-is_empty :
    goal.take_last-invariant_of-self-then-not-is_empty
take_last-invariant_of-self-then-not-is_empty g t c =
    let root = is_root g.K.Ord.cmp c.self.view_is c.self.invariant c.in-Node.is in
    let same = ap (λ v. node_entries v) c.in-Some-get_mut.ensures.value ∙ rw (c.in_ok-own-in-Node.ensures.branches, c.in_ok-own-in-Node.ensures.last) refl in
    let len : c.take_last_under.new.node.branches.len ≡ 0 → ⊥ = λ h. eqb-false _ 0 (sym c.if-not-is_empty.ensures) (ap (λ v. v.branches.len) c.node.view_is ∙ h) in
    let some : 1 ≤ length c.take_last_under.new.node.branches.items = omega (arith, len, c.take_last_under.new.node.branches.ok) in
    (taken_ascends g.K.Ord.cmp _ _ _ c.in_ok-taken-in-Node.ensures.ok (subst (Ascends g.K.Ord.cmp) (sym same) root.sorted), some)

pub take_last-returns-then-not-is_empty-clause-ascends :
    goal.take_last-returns-then-not-is_empty-clause-ascends
take_last-returns-then-not-is_empty-clause-ascends g t c =
    let root = is_root g.K.Ord.cmp c.self.view_is c.self.invariant c.in-Node.is in
    let same = ap (λ v. node_entries v) c.in-Some-get_mut.ensures.value ∙ rw (c.in_ok-own-in-Node.ensures.branches, c.in_ok-own-in-Node.ensures.last) refl in
    taken_ascends g.K.Ord.cmp _ _ _ c.in_ok-taken-in-Node.ensures.ok (subst (Ascends g.K.Ord.cmp) (sym same) root.sorted)

pub take_last-returns-else-not-is_empty-clause-ok :
    goal.take_last-returns-else-not-is_empty-clause-ok
take_last-returns-else-not-is_empty-clause-ok g t c =
    let root = is_root g.K.Ord.cmp c.self.view_is c.self.invariant c.in-Node.is in
    let same = ap (λ v. node_entries v) c.in-Some-get_mut.ensures.value ∙ rw (c.in_ok-own-in-Node.ensures.branches, c.in_ok-own-in-Node.ensures.last) refl in
    let len : c.take_last_under.new.node.branches.len ≡ 0 = ap (λ v. v.branches.len) (sym c.node.view_is) ∙ eqb-true _ 0 (sym c.if-not-is_empty.ensures) in
    let last = alone c.take_last_under.new.node.branches.items c.take_last_under.new.node.last (omega (arith, len, c.take_last_under.new.node.branches.ok)) in
    taken_as c.in_ok-taken-in-Node.taken _ _ _ _ (root.is ∙ sym same) (ap entries c.replace.ensures.value ∙ ap (λ v. v.last) c.node.view_is ∙ last) c.in_ok-taken-in-Node.ensures.ok

pub take_last_under-merge-requires : goal.take_last_under-merge-requires
take_last_under-merge-requires g t c =
    let taken = rw c.in-Some.is at c.in_ok-entry.ensures.ok in
    last_ascends g.K.Ord.cmp c.args.node.now.branches.items _ _ _ taken c.requires

pub take_last_under-returns-in-Some-clause-ok : goal.take_last_under-returns-in-Some-clause-ok
take_last_under-returns-in-Some-clause-ok g t c =
    let taken = rw c.in-Some.is at c.in_ok-entry.ensures.ok in
    last_child_taken c.args.node.now.branches.items _ _ _ taken ∙ ap (λ es. es ++ c.in-Some.entry ∷ []) (sym c.merge.ensures.same)

pub take_last_under-returns-in-None-clause-ok : goal.take_last_under-returns-in-None-clause-ok
take_last_under-returns-in-None-clause-ok g t c =
    let taken = rw c.in-None.is at c.in_ok-entry.ensures.ok in
    taken_as c.take_last_branch.result _ _ _ _ (ap (spread c.args.node.now.branches.items) (taken.0 ∙ sym taken.1)) refl c.take_last_branch.ensures
