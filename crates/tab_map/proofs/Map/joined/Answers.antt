use Rattle.std.proofs.Common.{length, ◌≤◌, sym, ap, ◌∙◌, subst}
use Rattle.tab_map.specs.Entries.{Ascends}
use Rattle.tab_map.specs.InOrder.{node_entries, entries}
use Rattle.tab_map.proofs.SpreadLemmas.{is_root}
use Rattle.tab_map.proofs.MergeLemmas.{joined_rows, joined_is, joined_some}
use Rattle.tab_map.proofs.Map.joined.Goals as goal

pub returns-in_ok-new-in-Node-Node : goal.returns-in_ok-new-in-Node-Node
returns-in_ok-new-in-Node-Node g c =
    let left = is_root g.K.Ord.cmp c.self.view_is c.self.invariant c.in-Node-Node.is-0 in
    let right = is_root g.K.Ord.cmp c.right.view_is c.right.invariant c.in-Node-Node.is-1 in
    let copied = rw (c.deref-in-Node-Node-2.ensures.value, c.deref-in-Node-Node.ensures) at c.in_ok-branches-in-Node-Node.ensures in
    let more = rw (c.deref-in-Node-Node-5.ensures.value, c.deref-in-Node-Node-4.ensures) at c.in_ok-more-in-Node-Node.ensures in
    let below = rw c.deref-in-Node-Node-3.ensures at c.in_ok-share-in-Node-Node.ensures in
    let last = rw c.deref-in-Node-Node-6.ensures at c.in_ok-last-in-Node-Node.ensures in
    ap (λ v. node_entries v) c.in_ok-new-in-Node-Node.ensures.ok
    ∙ joined_is _ _ _ _ _ _ _ _ _ _ _ _ _ c.in_ok-append-in-Node-Node.ensures.items c.in_ok-push-in-Node-Node.ensures.items copied more below c.in_ok-try_clone-in-Node-Node.ensures last left.is right.is

pub invariant_of-result-in-Node-Node : goal.invariant_of-result-in-Node-Node
invariant_of-result-in-Node-Node g c =
    let left = is_root g.K.Ord.cmp c.self.view_is c.self.invariant c.in-Node-Node.is-0 in
    let right = is_root g.K.Ord.cmp c.right.view_is c.right.invariant c.in-Node-Node.is-1 in
    let copied = rw (c.deref-in-Node-Node-2.ensures.value, c.deref-in-Node-Node.ensures) at c.in_ok-branches-in-Node-Node.ensures in
    let more = rw (c.deref-in-Node-Node-5.ensures.value, c.deref-in-Node-Node-4.ensures) at c.in_ok-more-in-Node-Node.ensures in
    let below = rw c.deref-in-Node-Node-3.ensures at c.in_ok-share-in-Node-Node.ensures in
    let last = rw c.deref-in-Node-Node-6.ensures at c.in_ok-last-in-Node-Node.ensures in
    let whole = ap (λ v. node_entries v) c.in_ok-new-in-Node-Node.ensures.ok
    ∙ joined_is _ _ _ _ _ _ _ _ _ _ _ _ _ c.in_ok-append-in-Node-Node.ensures.items c.in_ok-push-in-Node-Node.ensures.items copied more below c.in_ok-try_clone-in-Node-Node.ensures last left.is right.is in
    (subst (Ascends g.K.Ord.cmp) (sym whole) c.requires, subst (λ v. 1 ≤ length v.branches.items) (sym c.in_ok-new-in-Node-Node.ensures.ok) (joined_some _ _ _ _ _ c.in_ok-append-in-Node-Node.ensures.items c.in_ok-push-in-Node-Node.ensures.items))

pub returns-in_ok-new-in-Leaf-Leaf : goal.returns-in_ok-new-in-Leaf-Leaf
returns-in_ok-new-in-Leaf-Leaf g c =
    let copied = rw (c.as_slice.ensures.value, c.deref-in-Leaf-Leaf.ensures) at c.in_ok-items-in-Leaf-Leaf.ensures in
    let more = rw (c.as_slice-in-Leaf-Leaf.ensures.value, c.deref-in-Leaf-Leaf-2.ensures) at c.in_ok-more-in-Leaf-Leaf.ensures in
    let left = ap entries (sym c.in-Leaf-Leaf.is-0) ∙ c.self.view_is in
    let right = ap entries (sym c.in-Leaf-Leaf.is-1) ∙ c.right.view_is in
    ap (λ row. row.items) c.in_ok-new-in-Leaf-Leaf.ensures.ok
    ∙ joined_rows _ _ _ _ _ _ _ _ _ _ c.in_ok-append-in-Leaf-Leaf.ensures.items c.in_ok-push-in-Leaf-Leaf.ensures.items copied more c.in_ok-try_clone-in-Leaf-Leaf.ensures left right

pub invariant_of-result : goal.invariant_of-result
invariant_of-result g c =
    let copied = rw (c.as_slice.ensures.value, c.deref-in-Leaf-Leaf.ensures) at c.in_ok-items-in-Leaf-Leaf.ensures in
    let more = rw (c.as_slice-in-Leaf-Leaf.ensures.value, c.deref-in-Leaf-Leaf-2.ensures) at c.in_ok-more-in-Leaf-Leaf.ensures in
    let left = ap entries (sym c.in-Leaf-Leaf.is-0) ∙ c.self.view_is in
    let right = ap entries (sym c.in-Leaf-Leaf.is-1) ∙ c.right.view_is in
    let whole = ap (λ row. row.items) c.in_ok-new-in-Leaf-Leaf.ensures.ok
    ∙ joined_rows _ _ _ _ _ _ _ _ _ _ c.in_ok-append-in-Leaf-Leaf.ensures.items c.in_ok-push-in-Leaf-Leaf.ensures.items copied more c.in_ok-try_clone-in-Leaf-Leaf.ensures left right in
    (subst (Ascends g.K.Ord.cmp) (sym whole) c.requires, tt)
