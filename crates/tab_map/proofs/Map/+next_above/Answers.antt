use Rattle.std.proofs.Common.{rules, arith, ◌≡◌, ◌+◌, ◌∙◌, sym, refl, subst, ap, length, drop}
use Rattle.std.proofs.lemmas.Bool.{ltb-false}
use Rattle.std.proofs.lemmas.Option.{slice_get_read, slice_get_past}
use Rattle.tab_map.specs.Ahead.{AreAhead}
use Rattle.tab_map.specs.Entries.{Ascends}
use Rattle.tab_map.specs.InOrder.{entries}
use Rattle.tab_map.proofs.SpreadLemmas.{is_root, separators_ascend}
use Rattle.tab_map.proofs.AheadLemmas.{rest_ahead}
use Rattle.tab_map.proofs.NodeReads.{next_above_found, last_above_found, child_above, last_above, get_within, below_fewer, last_fewer}
use Rattle.tab_map.proofs.Map.+next_above.Goals as goal

-- The prover's own search leaves an entry of its list open in this recursion, so the plain goals are answered here too.
pub slice_bounds-in_row-end : goal.slice_bounds-in_row-end
slice_bounds-in_row-end g t c = search rules

pub next_above-requires : goal.next_above-requires
next_above-requires g t c =
    let sorted = subst (λ r. Ascends g.K.Ord.cmp (entries r)) c.in-Leaf.is c.self.invariant.0 in
    rw (c.as_slice.ensures.value, c.deref.ensures) sorted

pub overflow_add-n : goal.overflow_add-n
overflow_add-n g t c = search rules

pub get-requires : goal.get-requires
get-requires g t c κs = search rules

pub overflow_add-n-in-Some : goal.overflow_add-n-in-Some
overflow_add-n-in-Some g t c = search rules

pub new-requires : goal.new-requires
new-requires g t c =
    let within = rw (c.deref-in-Node-2.ensures.value, c.deref-in-Node.ensures) at c.in-Ok.ensures.found_in_node in
    rw c.deref-in-Some.ensures (omega (arith, within))

pub get-requires-in-Err : goal.get-requires-in-Err
get-requires-in-Err g t c κs = search rules

-- the child has fewer entries than the node
pub next_above-requires-in-Some-get : goal.next_above-requires-in-Some-get
next_above-requires-in-Some-get g t c κs within =
    let root = is_root g.K.Ord.cmp c.self.view_is c.self.invariant c.in-Node.is in
    let got = rw (c.deref-in-Err-2.ensures.value, c.deref-in-Err.ensures) at c.in-Some-get.ensures.lookup in
    let fewer = below_fewer _ c.in-Err.n c.in-Node.node.value.last c.in-Some-get.branch.now (slice_get_read _ _ _ _ refl got.3.0 got.1) in
    (omega (arith, c.decreases, fewer, ap length root.is), within)

pub new-requires-in-Some-get : goal.new-requires-in-Some-get
new-requires-in-Some-get g t c =
    let within = rw (c.deref-in-Node-2.ensures.value, c.deref-in-Node.ensures) at c.in-Err.ensures.child_in_node in
    rw c.deref-in-Some-get.ensures (omega (arith, within))

pub next_above-requires-in-None-get : goal.next_above-requires-in-None-get
next_above-requires-in-None-get g t c κs within =
    let root = is_root g.K.Ord.cmp c.self.view_is c.self.invariant c.in-Node.is in
    let last : length c.deref-in-None-get.result.now.last ≡ length c.in-Node.node.value.last = ap (λ z. length z.last) c.deref-in-None-get.ensures in
    (omega (arith, c.decreases, last, last_fewer c.in-Node.node.value.branches.items c.in-Node.node.value.last, root.some, ap length root.is), within)

pub returns-in-Some-clause-ahead : goal.returns-in-Some-clause-ahead
returns-in-Some-clause-ahead g t c =
    let root = is_root g.K.Ord.cmp c.self.view_is c.self.invariant c.in-Node.is in
    let found = rw (c.deref-in-Node-2.ensures.value, c.deref-in-Node.ensures) at c.in-Ok.ensures.found in
    let got = rw (c.deref-in-Ok-2.ensures.value, c.deref-in-Ok.ensures) at c.in-Some.ensures.lookup in
    let at = slice_get_read _ _ _ _ refl got.3.0 got.1 in
    let f = next_above_found g.met.K.Ord.total c.args.sought.now root c.in-Ok.n c.in-Some.branch.now found at in
    rest_ahead c.then.result _ _ _ _ (c.in-Ok.n + 1) _ _ (c.then.ensures.ahead _ c.start.ensures.ahead) (c.new.ensures.branches ∙ ap (λ z. drop (c.in-Ok.n + 1) z.branches.items) c.deref-in-Some.ensures) (c.new.ensures.last ∙ ap (λ z. z.last) c.deref-in-Some.ensures) (get_within _ _ _ at) f

pub returns-in-None-clause-ahead : goal.returns-in-None-clause-ahead
returns-in-None-clause-ahead g t c =
    let root = is_root g.K.Ord.cmp c.self.view_is c.self.invariant c.in-Node.is in
    let found = rw (c.deref-in-Node-2.ensures.value, c.deref-in-Node.ensures) at c.in-Ok.ensures.found in
    let none = rw (c.deref-in-Ok-2.ensures.value, c.deref-in-Ok.ensures) at c.in-None.ensures.lookup.0 in
    let ahead = rw c.deref-in-None.ensures at c.start-in-None.ensures.ahead in
    subst (AreAhead c.start-in-None.result) (sym (last_above_found g.met.K.Ord.total c.args.sought.now root c.in-Ok.n found (slice_get_past _ _ (ltb-false _ _ (sym none))))) ahead

pub returns-in-Some-get-clause-ahead : goal.returns-in-Some-get-clause-ahead
returns-in-Some-get-clause-ahead g t c =
    let root = is_root g.K.Ord.cmp c.self.view_is c.self.invariant c.in-Node.is in
    let child = (rw (c.deref-in-Node-2.ensures.value, c.deref-in-Node.ensures) at c.in-Err.ensures.child) (separators_ascend g.K.Ord.cmp _ _ root.sorted) in
    let got = rw (c.deref-in-Err-2.ensures.value, c.deref-in-Err.ensures) at c.in-Some-get.ensures.lookup in
    let at = slice_get_read _ _ _ _ refl got.3.0 got.1 in
    let f = child_above g.met.K.Ord.total c.args.sought.now root c.in-Err.n c.in-Some-get.branch.now child at in
    rest_ahead c.then-in-Some-get.result _ _ _ _ c.in-Err.n _ _ (c.then-in-Some-get.ensures.ahead _ c.next_above-in-Some-get.ensures.ahead) (c.new-in-Some-get.ensures.branches ∙ ap (λ z. drop c.in-Err.n z.branches.items) c.deref-in-Some-get.ensures) (c.new-in-Some-get.ensures.last ∙ ap (λ z. z.last) c.deref-in-Some-get.ensures) (get_within _ _ _ at) f

pub returns-in-None-get-clause-ahead : goal.returns-in-None-get-clause-ahead
returns-in-None-get-clause-ahead g t c =
    let root = is_root g.K.Ord.cmp c.self.view_is c.self.invariant c.in-Node.is in
    let child = (rw (c.deref-in-Node-2.ensures.value, c.deref-in-Node.ensures) at c.in-Err.ensures.child) (separators_ascend g.K.Ord.cmp _ _ root.sorted) in
    let none = rw (c.deref-in-Err-2.ensures.value, c.deref-in-Err.ensures) at c.in-None-get.ensures.lookup.0 in
    let ahead = rw c.deref-in-None-get.ensures at c.next_above-in-None-get.ensures.ahead in
    subst (AreAhead c.next_above-in-None-get.result) (sym (last_above g.met.K.Ord.total c.args.sought.now root c.in-Err.n child (slice_get_past _ _ (ltb-false _ _ (sym none))))) ahead
