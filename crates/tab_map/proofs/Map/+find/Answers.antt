use Rattle.std.proofs.Common.{◌∙◌, sym, ap, refl, subst}
use Rattle.std.proofs.lemmas.Bool.{ltb-false}
use Rattle.std.proofs.lemmas.Option.{slice_get_read, slice_get_past}
use Rattle.tab_map.specs.Entries.{lookup, Ascends}
use Rattle.tab_map.specs.InOrder.{entries}
use Rattle.tab_map.proofs.SpreadLemmas.{is_root, separators_ascend, child_lookup, last_lookup}
use Rattle.tab_map.proofs.NodeReads.{found_lookup}
use Rattle.tab_map.proofs.Map.+find.Goals as goal

pub returns-in-Ok-clause-value : goal.returns-in-Ok-clause-value
returns-in-Ok-clause-value g t c =
    let root = is_root g.K.Ord.cmp c.self.view_is c.self.invariant c.in-Node.is in
    let found = rw (c.deref-in-Node-2.ensures.value, c.deref-in-Node.ensures) at c.in-Ok.ensures.found in
    let at = rw c.deref-in-Ok.ensures at c.index.ensures in
    found_lookup g.met.K.Ord.total c.args.sought.now root c.in-Ok.n c.index.result.now found at

pub returns-in-Some-clause-value : goal.returns-in-Some-clause-value
returns-in-Some-clause-value g t c =
    let root = is_root g.K.Ord.cmp c.self.view_is c.self.invariant c.in-Node.is in
    let child = (rw (c.deref-in-Node-2.ensures.value, c.deref-in-Node.ensures) at c.in-Err.ensures.child) (separators_ascend g.K.Ord.cmp _ _ root.sorted) in
    let got = rw (c.deref-in-Err-2.ensures.value, c.deref-in-Err.ensures) at c.in-Some.ensures.lookup in
    let below = child_lookup g.met.K.Ord.total c.args.sought.now _ c.in-Err.n _ c.in-Some.branch.now child (slice_get_read _ _ _ _ refl got.3.0 got.1) root.sorted in
    c.find.ensures.value ∙ sym (ap (lookup g.K.Ord.cmp c.args.sought.now) root.is ∙ below)

pub returns-in-None-clause-value : goal.returns-in-None-clause-value
returns-in-None-clause-value g t c =
    let root = is_root g.K.Ord.cmp c.self.view_is c.self.invariant c.in-Node.is in
    let child = (rw (c.deref-in-Node-2.ensures.value, c.deref-in-Node.ensures) at c.in-Err.ensures.child) (separators_ascend g.K.Ord.cmp _ _ root.sorted) in
    let none = rw (c.deref-in-Err-2.ensures.value, c.deref-in-Err.ensures) at c.in-None.ensures.lookup.0 in
    let value = rw c.deref-in-None.ensures at c.find-in-None.ensures.value in
    let last = last_lookup g.met.K.Ord.total c.args.sought.now _ c.in-Err.n _ child (slice_get_past _ _ (ltb-false _ _ (sym none))) root.sorted in
    value ∙ sym (ap (lookup g.K.Ord.cmp c.args.sought.now) root.is ∙ last)

pub returns-in-Empty-clause-ascends : goal.returns-in-Empty-clause-ascends
returns-in-Empty-clause-ascends g t c = subst (Ascends g.K.Ord.cmp) c.self.view_is c.self.invariant.0

pub returns-in-Leaf-clause-ascends : goal.returns-in-Leaf-clause-ascends
returns-in-Leaf-clause-ascends g t c = subst (Ascends g.K.Ord.cmp) c.self.view_is c.self.invariant.0

pub returns-in-Ok-clause-ascends : goal.returns-in-Ok-clause-ascends
returns-in-Ok-clause-ascends g t c = subst (Ascends g.K.Ord.cmp) c.self.view_is c.self.invariant.0

pub returns-in-Some-clause-ascends : goal.returns-in-Some-clause-ascends
returns-in-Some-clause-ascends g t c = subst (Ascends g.K.Ord.cmp) c.self.view_is c.self.invariant.0

pub returns-in-None-clause-ascends : goal.returns-in-None-clause-ascends
returns-in-None-clause-ascends g t c = subst (Ascends g.K.Ord.cmp) c.self.view_is c.self.invariant.0

pub get-requires : goal.get-requires
get-requires g t c =
    let sorted = subst (λ r. Ascends g.K.Ord.cmp (entries r)) c.in-Leaf.is c.self.invariant.0 in
    rw (c.as_slice.ensures.value, c.deref.ensures) sorted

pub returns-in-Leaf-clause-value : goal.returns-in-Leaf-clause-value
returns-in-Leaf-clause-value g t c =
    let same = c.as_slice.ensures.value ∙ ap (λ v. v.items) c.deref.ensures ∙ ap entries (sym c.in-Leaf.is) ∙ c.self.view_is in
    c.get.ensures ∙ ap (lookup g.K.Ord.cmp c.args.sought.now) same
