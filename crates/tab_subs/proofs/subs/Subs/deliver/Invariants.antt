use Rattle.std.proofs.Common.{◌≡◌, ◌+◌, ◌≤◌, length, vec_len, vec_capacity}
use Rattle.std.specs.Prelude.{map, option_to_list}
use Rattle.tab_subs.specs.Subscribers.{numbers}
use Rattle.tab_subs.proofs.Delivering.{IsUnderWay}
use Rattle.tab_subs.proofs.subs.Subs.deliver.Given as goal

abbrev pub invariant-loop-slot : goal.invariant-loop-slot
invariant-loop-slot g l = record {
  same : numbers l.slot-items ≡ numbers l.fn.self;
  way : IsUnderWay l.number l.ended l.fn.prepared.items l.fn.self l.over.items (map option_to_list l.due.items) l.slot-items l.slot-index;
  room : vec_len l.over + length l.due.items ≤ vec_capacity l.over;
}
