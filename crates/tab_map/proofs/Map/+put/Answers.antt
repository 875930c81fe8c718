use Rattle.std.proofs.Common.{◌<◌, refl, sym, ap, ◌∙◌, subst, arith, slice_set, Some}
use Rattle.std.proofs.lemmas.Option.{slice_get_read, slice_get_past}
use Rattle.tab_map.specs.Entries.{Ascends}
use Rattle.tab_map.specs.InOrder.{spread, entries}
use Rattle.tab_map.proofs.AscendsLemmas.{ascends_insert}
use Rattle.tab_map.proofs.SpreadLemmas.{is_root, separators_ascend, same_root, child_insert, child_lookup, last_insert, last_lookup, found_insert, found_value}
use Rattle.tab_map.proofs.Map.+put.Goals as goal

pub put-invariant_of-self-in-Leaf : goal.put-invariant_of-self-in-Leaf
put-invariant_of-self-in-Leaf g t c =
    let s = subst (λ root. Ascends g.K.Ord.cmp (entries root)) c.in-Leaf.is c.self.invariant.0 in
    (subst (Ascends g.K.Ord.cmp) (sym c.in_ok-replaced-in-Leaf.ensures.ok) (ascends_insert g.met.K.Ord.total c.args.entry _ s), tt)

pub put-invariant_of-self-in-Node : goal.put-invariant_of-self-in-Node
put-invariant_of-self-in-Node g t c =
    let root = is_root g.K.Ord.cmp c.self.view_is c.self.invariant c.in-Node.is in
    let f = same_root root (ap (λ n. n.branches.items) c.in-Some.ensures.value ∙ c.own.ensures.branches) (ap (λ n. n.last) c.in-Some.ensures.value ∙ c.own.ensures.last) in
    (subst (Ascends g.K.Ord.cmp) (sym c.in_ok-replaced-in-Node.ensures.ok) (ascends_insert g.met.K.Ord.total c.args.entry _ f.sorted), omega (arith, c.in_ok-replaced-in-Node.ensures.kept, f.some))

pub put_under-returns-in-Ok-clause-ok : goal.put_under-returns-in-Ok-clause-ok
put_under-returns-in-Ok-clause-ok g t c =
    let found = rw (c.sought.ensures, c.deref.ensures.value) at c.in-Ok.ensures.found in
    let place = rw c.deref.ensures.value at c.in-Ok.ensures.found_in_node in
    ap (λ e. spread (slice_set c.args.node.now.branches.items c.in-Ok.n record { below = c.index_mut.result.now.below; entry = e }) c.args.node.now.last) c.replace.ensures.after
    ∙ found_insert g.met.K.Ord.total c.args.entry _ c.in-Ok.n c.args.node.now.last c.index_mut.result.now found (slice_get_read _ _ _ _ refl place c.index_mut.ensures.value) c.requires

pub put_under-returns-in-Ok-clause-replaced : goal.put_under-returns-in-Ok-clause-replaced
put_under-returns-in-Ok-clause-replaced g t c =
    let found = rw (c.sought.ensures, c.deref.ensures.value) at c.in-Ok.ensures.found in
    let place = rw c.deref.ensures.value at c.in-Ok.ensures.found_in_node in
    ap (λ e. Some e.1) c.replace.ensures.value
    ∙ sym (found_value g.met.K.Ord.total c.args.entry.0 _ c.in-Ok.n c.args.node.now.last c.index_mut.result.now found (slice_get_read _ _ _ _ refl place c.index_mut.ensures.value) c.requires)

pub put_under-returns-in_ok-replaced-in-Some-clause-ok : goal.put_under-returns-in_ok-replaced-in-Some-clause-ok
put_under-returns-in_ok-replaced-in-Some-clause-ok g t c =
    let child = (rw (c.sought.ensures, c.deref.ensures.value) at c.in-Err.ensures.child) (separators_ascend g.K.Ord.cmp _ _ c.requires) in
    let place = slice_get_read _ _ _ _ c.args.node.now.branches.ok.0 (c.in-Some.ensures.variant.0 refl) c.in-Some.ensures.value in
    c.split.ensures.same
    ∙ ap (λ z. spread (slice_set c.args.node.now.branches.items c.in-Err.n record { below = z; entry = c.in-Some.branch.now.entry }) c.args.node.now.last) c.in_ok-replaced-in-Some.ensures.ok
    ∙ child_insert g.met.K.Ord.total c.args.entry _ c.in-Err.n c.args.node.now.last c.in-Some.branch.now child place c.requires

pub put_under-returns-in_ok-replaced-in-None-clause-ok : goal.put_under-returns-in_ok-replaced-in-None-clause-ok
put_under-returns-in_ok-replaced-in-None-clause-ok g t c =
    let child = (rw (c.sought.ensures, c.deref.ensures.value) at c.in-Err.ensures.child) (separators_ascend g.K.Ord.cmp _ _ c.requires) in
    let none : c.in-Err.n < c.args.node.now.branches.len → ⊥ = λ h. cc (c.in-None.ensures.variant.1 h) in
    let place = slice_get_past c.args.node.now.branches.items c.in-Err.n (omega (arith, none, c.args.node.now.branches.ok)) in
    c.split-in-None.ensures.same
    ∙ ap (λ z. spread c.args.node.now.branches.items z) c.in_ok-replaced-in-None.ensures.ok
    ∙ last_insert g.met.K.Ord.total c.args.entry _ c.in-Err.n c.args.node.now.last child place c.requires

pub put_under-returns-in_ok-replaced-in-Some-clause-replaced : goal.put_under-returns-in_ok-replaced-in-Some-clause-replaced
put_under-returns-in_ok-replaced-in-Some-clause-replaced g t c =
    let child = (rw (c.sought.ensures, c.deref.ensures.value) at c.in-Err.ensures.child) (separators_ascend g.K.Ord.cmp _ _ c.requires) in
    let place = slice_get_read _ _ _ _ c.args.node.now.branches.ok.0 (c.in-Some.ensures.variant.0 refl) c.in-Some.ensures.value in
    c.in_ok-replaced-in-Some.ensures.replaced ∙ sym (child_lookup g.met.K.Ord.total c.args.entry.0 _ c.in-Err.n c.args.node.now.last c.in-Some.branch.now child place c.requires)

pub put_under-returns-in_ok-replaced-in-None-clause-replaced : goal.put_under-returns-in_ok-replaced-in-None-clause-replaced
put_under-returns-in_ok-replaced-in-None-clause-replaced g t c =
    let child = (rw (c.sought.ensures, c.deref.ensures.value) at c.in-Err.ensures.child) (separators_ascend g.K.Ord.cmp _ _ c.requires) in
    let none : c.in-Err.n < c.args.node.now.branches.len → ⊥ = λ h. cc (c.in-None.ensures.variant.1 h) in
    let place = slice_get_past c.args.node.now.branches.items c.in-Err.n (omega (arith, none, c.args.node.now.branches.ok)) in
    c.in_ok-replaced-in-None.ensures.replaced ∙ sym (last_lookup g.met.K.Ord.total c.args.entry.0 _ c.in-Err.n c.args.node.now.last child place c.requires)
