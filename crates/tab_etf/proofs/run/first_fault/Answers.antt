use Rattle.tab_etf.proofs.Settling.{stops_first}
use Rattle.tab_etf.proofs.run.first_fault.Goals as goal

pub returns : goal.returns
returns c = λ es noted.
    let perm = rw c.deref_mut.ensures.value at c.sort_and_find.ensures.permutation in
    let up = rw c.deref.ensures.value at c.sort_and_find.ensures.sorted in
    let first = rw c.deref.ensures.value at c.sort_and_find.ensures.first in
    rw c.earlier_stop.ensures (stops_first c.args.run.spelled.items c.args.run.keys.items es noted c.sort_and_find.new.keys perm up c.args.at c.sort_and_find.result first)
