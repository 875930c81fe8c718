use Rattle.std.proofs.Common.{◌<◌, refl, sym, ap, ◌∙◌, subst, arith, slice_set}
use Rattle.std.proofs.lemmas.Option.{slice_get_read, slice_get_past}
use Rattle.tab_map.specs.Entries.{Ascends}
use Rattle.tab_map.specs.InOrder.{spread, entries, HasBranch}
use Rattle.tab_map.proofs.SpreadLemmas.{is_root, separators_ascend, same_root}
use Rattle.tab_map.proofs.RevisedLemmas.{revised_ascends, found_revised, child_revised, last_revised}
use Rattle.tab_map.proofs.Map.+revise.Goals as goal
use Rattle.tab_map.proofs.Map.+revise.Goals.{revise-in-Leaf+in_ok-revise_in_row-in-Leaf, revise-in-Node+in_ok-own-in-Node+in-Some+in_ok-revise_under-in-Node}

pub revise-invariant_of-self-2 : goal.revise-invariant_of-self-2
revise-invariant_of-self-2 g t c =
    let f = g.R.Revise.becomes c.args.revision in
    elim c.match-self.branch [
      | revise-in-Leaf+in_ok-revise_in_row-in-Leaf w ↦
          let s = subst (λ root. Ascends g.K.Ord.cmp (entries root)) w.in-Leaf.is c.self.invariant.0 in
          subst (λ z. Ascends g.K.Ord.cmp (entries z.root) × HasBranch z.root) (sym w.self-inside-is)
          (subst (Ascends g.K.Ord.cmp) (sym w.in_ok-revise_in_row-in-Leaf.ensures.ok) (revised_ascends g.met.K.Ord.total f c.args.key _ s), tt)
      | revise-in-Node+in_ok-own-in-Node+in-Some+in_ok-revise_under-in-Node w ↦
          let root = is_root g.K.Ord.cmp c.self.view_is c.self.invariant w.in-Node.is in
          let same = same_root root (ap (λ n. n.branches.items) w.in-Some.ensures.value ∙ w.own.ensures.branches) (ap (λ n. n.last) w.in-Some.ensures.value ∙ w.own.ensures.last) in
          subst (λ z. Ascends g.K.Ord.cmp (entries z.root) × HasBranch z.root) (sym w.self-inside-is)
          (subst (Ascends g.K.Ord.cmp) (sym w.in_ok-revise_under-in-Node.ensures.ok) (revised_ascends g.met.K.Ord.total f c.args.key _ same.sorted), omega (arith, w.in_ok-revise_under-in-Node.ensures.kept, same.some))
    ]

pub revise_under-returns-in_ok-revise-in-Ok-clause-ok : goal.revise_under-returns-in_ok-revise-in-Ok-clause-ok
revise_under-returns-in_ok-revise-in-Ok-clause-ok g t c =
    let found = rw (c.new.ensures, c.deref.ensures.value) at c.in-Ok.ensures.found in
    let place = rw c.deref.ensures.value at c.in-Ok.ensures.found_in_node in
    ap (λ e. spread (slice_set c.args.node.now.branches.items c.in-Ok.n record { below = c.index_mut.result.now.below; entry = e }) c.args.node.now.last) c.in_ok-revise-in-Ok.ensures.ok
    ∙ found_revised g.met.K.Ord.total (g.R.Revise.becomes c.args.revision) c.args.key _ c.in-Ok.n c.args.node.now.last c.index_mut.result.now found (slice_get_read _ _ _ _ refl place c.index_mut.ensures.value) c.requires

pub revise_under-returns-in_ok-revise-in-Some-clause-ok : goal.revise_under-returns-in_ok-revise-in-Some-clause-ok
revise_under-returns-in_ok-revise-in-Some-clause-ok g t c =
    let child = (rw (c.new.ensures, c.deref.ensures.value) at c.in-Err.ensures.child) (separators_ascend g.K.Ord.cmp _ _ c.requires) in
    let place = slice_get_read _ _ _ _ c.args.node.now.branches.ok.0 (c.in-Some.ensures.variant.0 refl) c.in-Some.ensures.value in
    ap (λ z. spread (slice_set c.args.node.now.branches.items c.in-Err.n record { below = z; entry = c.in-Some.branch.now.entry }) c.args.node.now.last) c.in_ok-revise-in-Some.ensures.ok
    ∙ child_revised g.met.K.Ord.total (g.R.Revise.becomes c.args.revision) c.args.key _ c.in-Err.n c.args.node.now.last c.in-Some.branch.now child place c.requires

pub revise_under-returns-in_ok-revise-in-None-clause-ok : goal.revise_under-returns-in_ok-revise-in-None-clause-ok
revise_under-returns-in_ok-revise-in-None-clause-ok g t c =
    let child = (rw (c.new.ensures, c.deref.ensures.value) at c.in-Err.ensures.child) (separators_ascend g.K.Ord.cmp _ _ c.requires) in
    let none : c.in-Err.n < c.args.node.now.branches.len → ⊥ = λ h. cc (c.in-None.ensures.variant.1 h) in
    let place = slice_get_past c.args.node.now.branches.items c.in-Err.n (omega (arith, none, c.args.node.now.branches.ok)) in
    ap (λ z. spread c.args.node.now.branches.items z) c.in_ok-revise-in-None.ensures.ok
    ∙ last_revised g.met.K.Ord.total (g.R.Revise.becomes c.args.revision) c.args.key _ c.in-Err.n c.args.node.now.last child place c.requires
