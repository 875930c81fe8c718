use Rattle.std.proofs.Common.{◌≡◌, ◌++◌, drop, map}
use Rattle.std.specs.Prelude.{option_to_list}
use Rattle.tab_model.specs.Slices.{batch_for}
use Rattle.tab_model.specs.State.{level_in}
use Rattle.tab_subs.specs.Subscribers.{Subscriber}
use Rattle.tab_subs.proofs.subs.Subs.due_of.Given as goal

abbrev pub invariant-loop-slot : goal.invariant-loop-slot
invariant-loop-slot g l = record {
  same : l.shaped.items ≡ l.events;
  due : map option_to_list l.due.items ++ map (λ (s : Subscriber _). batch_for (level_in s.watching) l.commit l.events) (drop l.slot-index l.slot-items) ≡ map (λ (s : Subscriber _). batch_for (level_in s.watching) l.commit l.events) l.slot-items;
}
