use Rattle.std.proofs.Common.{◌≡◌, ◌<◌, refl, sym, ap, ◌∙◌, subst, arith, length, slice_set}
use Rattle.std.proofs.lemmas.Result.{on_ok_weaker}
use Rattle.std.proofs.lemmas.Option.{slice_get_read, slice_get_past}
use Rattle.tab_map.specs.Entries.{Ascends}
use Rattle.tab_map.specs.InOrder.{spread, entries}
use Rattle.tab_map.proofs.AscendsLemmas.{ascends_remove}
use Rattle.tab_map.proofs.SpreadLemmas.{is_root, separators_ascend, same_root, child_remove, last_remove}
use Rattle.tab_map.proofs.Map.+take.Goals as goal

pub take-invariant_of-self-in-Continue-1 : goal.take-invariant_of-self-in-Continue-1
take-invariant_of-self-in-Continue-1 g t c =
    let s = subst (λ root. Ascends g.K.Ord.cmp (entries root)) c.in-Leaf.is c.self.invariant.0 in
    (subst (Ascends g.K.Ord.cmp) (sym c.in_ok-take_in_row-in-Leaf.ensures.ok) (ascends_remove g.K.Ord.cmp c.args.sought.now _ s), tt)

pub take-invariant_of-self-else-is_empty : goal.take-invariant_of-self-else-is_empty
take-invariant_of-self-else-is_empty g t c =
    let root = is_root g.K.Ord.cmp c.self.view_is c.self.invariant c.in-Node.is in
    let f = same_root root (ap (λ n. n.branches.items) c.in-Some.ensures.value ∙ c.own.ensures.branches) (ap (λ n. n.last) c.in-Some.ensures.value ∙ c.own.ensures.last) in
    let some : length c.take_under.new.node.branches.items ≡ 0 → ⊥ = λ h.
    let none : c.node.inside.0.0.len ≡ 0 = omega (arith, h, ap (λ n. length n.branches.items) c.node.view_is, c.node.inside.0.0.ok) in
    let empty = rw none at c.is_empty.ensures in
    cc (empty, c.if-is_empty.false) in
    (subst (Ascends g.K.Ord.cmp) (sym c.in_ok-take_under-in-Node.ensures.ok) (ascends_remove g.K.Ord.cmp c.args.sought.now _ f.sorted), omega (arith, some))

pub take_under-merge-requires : goal.take_under-merge-requires
take_under-merge-requires g t c =
    let child = (rw c.deref.ensures.value at c.in-Err.ensures.child) (separators_ascend g.K.Ord.cmp _ _ c.requires) in
    let place = slice_get_read _ _ _ _ c.args.node.now.branches.ok.0 (c.in-Some.ensures.variant.0 refl) c.in-Some.ensures.value in
    let p = ap (λ z. spread (slice_set c.args.node.now.branches.items c.in-Err.n record { below = z; entry = c.in-Some.branch.now.entry }) c.args.node.now.last) c.in_ok-take-in-Some.ensures.ok
    ∙ child_remove g.met.K.Ord.total c.args.sought.now c.args.node.now.branches.items c.in-Err.n c.args.node.now.last c.in-Some.branch.now child place c.requires in
    subst (Ascends g.K.Ord.cmp) (sym p) (ascends_remove g.K.Ord.cmp c.args.sought.now _ c.requires)

pub take_under-merge-requires-in-None : goal.take_under-merge-requires-in-None
take_under-merge-requires-in-None g t c =
    let child = (rw c.deref.ensures.value at c.in-Err.ensures.child) (separators_ascend g.K.Ord.cmp _ _ c.requires) in
    let none : c.in-Err.n < c.args.node.now.branches.len → ⊥ = λ h. cc (c.in-None.ensures.variant.1 h) in
    let place = slice_get_past c.args.node.now.branches.items c.in-Err.n (omega (arith, none, c.args.node.now.branches.ok)) in
    let p = ap (λ z. spread c.args.node.now.branches.items z) c.in_ok-take-in-None.ensures.ok
    ∙ last_remove g.met.K.Ord.total c.args.sought.now c.args.node.now.branches.items c.in-Err.n c.args.node.now.last child place c.requires in
    subst (Ascends g.K.Ord.cmp) (sym p) (ascends_remove g.K.Ord.cmp c.args.sought.now _ c.requires)

pub take_under-returns-in-Ok-clause-ok : goal.take_under-returns-in-Ok-clause-ok
take_under-returns-in-Ok-clause-ok g t c =
    let found = rw c.deref.ensures.value at c.in-Ok.ensures.found in
    on_ok_weaker c.take_at.result (λ h. h c.args.sought.now found) c.take_at.ensures.ok

pub take_under-returns-in_ok-take-in-Some-clause-ok : goal.take_under-returns-in_ok-take-in-Some-clause-ok
take_under-returns-in_ok-take-in-Some-clause-ok g t c =
    let child = (rw c.deref.ensures.value at c.in-Err.ensures.child) (separators_ascend g.K.Ord.cmp _ _ c.requires) in
    let place = slice_get_read _ _ _ _ c.args.node.now.branches.ok.0 (c.in-Some.ensures.variant.0 refl) c.in-Some.ensures.value in
    c.merge.ensures.same
    ∙ ap (λ z. spread (slice_set c.args.node.now.branches.items c.in-Err.n record { below = z; entry = c.in-Some.branch.now.entry }) c.args.node.now.last) c.in_ok-take-in-Some.ensures.ok
    ∙ child_remove g.met.K.Ord.total c.args.sought.now c.args.node.now.branches.items c.in-Err.n c.args.node.now.last c.in-Some.branch.now child place c.requires

pub take_under-returns-in_ok-take-in-None-clause-ok : goal.take_under-returns-in_ok-take-in-None-clause-ok
take_under-returns-in_ok-take-in-None-clause-ok g t c =
    let child = (rw c.deref.ensures.value at c.in-Err.ensures.child) (separators_ascend g.K.Ord.cmp _ _ c.requires) in
    let none : c.in-Err.n < c.args.node.now.branches.len → ⊥ = λ h. cc (c.in-None.ensures.variant.1 h) in
    let place = slice_get_past c.args.node.now.branches.items c.in-Err.n (omega (arith, none, c.args.node.now.branches.ok)) in
    c.merge-in-None.ensures.same
    ∙ ap (λ z. spread c.args.node.now.branches.items z) c.in_ok-take-in-None.ensures.ok
    ∙ last_remove g.met.K.Ord.total c.args.sought.now c.args.node.now.branches.items c.in-Err.n c.args.node.now.last child place c.requires
