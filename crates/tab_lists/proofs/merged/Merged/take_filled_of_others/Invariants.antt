use Rattle.std.proofs.Common.{◌≡◌, length}
use Rattle.tab_lists.specs.ByKey.{filled_keys}
use Rattle.tab_lists.proofs.merged.Merged.take_filled_of_others.Given as goal

abbrev pub invariant-loop-key : goal.invariant-loop-key
invariant-loop-key l = filled_keys l.self ≡ filled_keys l.initial.self

abbrev pub decreases-loop-key : goal.decreases-loop-key
decreases-loop-key l = length l.self
