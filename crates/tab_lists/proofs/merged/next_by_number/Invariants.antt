use Rattle.std.proofs.Common.{◌≡◌, [], length}
use Rattle.std.specs.Option.{option_copied}
use Rattle.tab_lists.specs.ByKey.{joined}
use Rattle.tab_lists.specs.Conditions.{chosen}
use Rattle.tab_lists.specs.Lists.{near_of}
use Rattle.tab_lists.proofs.merged.next_by_number.Given as goal

-- what is left to be given is as it was, and none of it is near
abbrev pub invariant-loop-entry : goal.invariant-loop-entry
invariant-loop-entry l = (near_of l.near ≡ []) × (chosen (option_copied l.condition) (joined l.entries) ≡ chosen (option_copied l.condition) (joined l.initial.entries))

abbrev pub decreases-loop-entry : goal.decreases-loop-entry
decreases-loop-entry l = length l.entries
