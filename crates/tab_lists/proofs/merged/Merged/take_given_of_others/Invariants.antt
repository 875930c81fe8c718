use Rattle.std.proofs.Common.{◌≡◌, [], length}
use Rattle.std.specs.Option.{option_copied}
use Rattle.tab_lists.specs.ByKey.{joined}
use Rattle.tab_lists.specs.Conditions.{chosen}
use Rattle.tab_lists.specs.Lists.{near_of}
use Rattle.tab_lists.proofs.merged.Merged.take_given_of_others.Given as goal

-- what is left to be given is as it was, and none of it is near
abbrev pub invariant-loop-records : goal.invariant-loop-records
invariant-loop-records l = (near_of l.near ≡ []) × (chosen (option_copied l.condition) (joined l.self) ≡ chosen (option_copied l.condition) (joined l.initial.self))

abbrev pub decreases-loop-records : goal.decreases-loop-records
decreases-loop-records l = length l.self
