use Rattle.std.proofs.Common.{add-one, slice_get, refl, sym, ap, ◌∙◌}
use Rattle.std.proofs.lemmas.Bool.{ltb-false}
use Rattle.std.proofs.lemmas.Option.{slice_get_read, slice_get_past}
use Rattle.tab_map.proofs.MergeLemmas.{merge_child, merge_last, two_children, last_children}
use Rattle.tab_map.proofs.Node.try_merge.Goals as goal

pub joined-requires : goal.joined-requires
joined-requires g c =
    let here = rw c.deref.ensures.value at c.in-Some.ensures.lookup in
    let next = rw c.deref-2.ensures.value at c.in-Some-get.ensures.lookup in
    two_children g.K.Ord.cmp c.args.self.now.branches.items c.args.n _ _ c.args.self.now.last (slice_get_read _ _ _ _ refl here.3.0 here.1) (sym (ap (slice_get c.args.self.now.branches.items) (add-one c.args.n)) ∙ slice_get_read _ _ _ _ refl next.3.0 next.1) c.requires

pub joined-requires-in-None : goal.joined-requires-in-None
joined-requires-in-None g c =
    let here = rw c.deref.ensures.value at c.in-Some.ensures.lookup in
    let none = rw c.deref-2.ensures.value at c.in-None.ensures.lookup.0 in
    last_children g.K.Ord.cmp c.args.self.now.branches.items c.args.n _ c.args.self.now.last (slice_get_read _ _ _ _ refl here.3.0 here.1) (sym (ap (slice_get c.args.self.now.branches.items) (add-one c.args.n)) ∙ slice_get_past _ _ (ltb-false _ _ (sym none))) c.requires

pub returns-in-Some-2 : goal.returns-in-Some-2
returns-in-Some-2 g c =
    let here = rw c.deref.ensures.value at c.in-Some.ensures.lookup in
    let next = rw c.deref-2.ensures.value at c.in-Some-get.ensures.lookup in
    let item = rw c.remove.ensures.items at c.index_mut.ensures.value in
    let merged = rw c.in-Some-2.is at c.in_ok-merged-in-Some-get.ensures in
    rw c.remove.ensures.items record { same = merge_child c.args.self.now.branches.items c.args.n _ _ _ _ c.args.self.now.last (slice_get_read _ _ _ _ refl here.3.0 here.1) (sym (ap (slice_get c.args.self.now.branches.items) (add-one c.args.n)) ∙ slice_get_read _ _ _ _ refl next.3.0 next.1) item merged }

pub returns-in-Some-3 : goal.returns-in-Some-3
returns-in-Some-3 g c =
    let here = rw c.deref.ensures.value at c.in-Some.ensures.lookup in
    let none = rw c.deref-2.ensures.value at c.in-None.ensures.lookup.0 in
    let merged = rw c.in-Some-3.is at c.in_ok-merged-in-None.ensures in
    rw c.remove-in-None.ensures.items record { same = merge_last c.args.self.now.branches.items c.args.n _ _ c.args.self.now.last (slice_get_read _ _ _ _ refl here.3.0 here.1) (sym (ap (slice_get c.args.self.now.branches.items) (add-one c.args.n)) ∙ slice_get_past _ _ (ltb-false _ _ (sym none))) merged }
