use Rattle.std.proofs.Common.{◌≡◌, ◌++◌, drop, map}
use Rattle.std.specs.Prelude.{option_to_list, Some}
use Rattle.tab_model.specs.Slices.{end_for}
use Rattle.tab_model.specs.State.{level_in}
use Rattle.tab_subs.specs.Subscribers.{Subscriber}
use Rattle.tab_subs.proofs.subs.Subs.prepare_end.Given as goal

abbrev pub invariant-loop-slot : goal.invariant-loop-slot
invariant-loop-slot g l = map option_to_list l.due.items ++ map (λ (s : Subscriber _). end_for (level_in s.watching) (Some l.table)) (drop l.slot-index l.slot-items) ≡ map (λ (s : Subscriber _). end_for (level_in s.watching) (Some l.table)) l.slot-items
