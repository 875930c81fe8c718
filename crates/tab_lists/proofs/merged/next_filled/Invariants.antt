use Rattle.std.proofs.Common.{◌≡◌, length}
use Rattle.tab_lists.specs.ByKey.{filled_keys}
use Rattle.tab_lists.proofs.merged.next_filled.Given as goal

abbrev pub invariant-loop-entry : goal.invariant-loop-entry
invariant-loop-entry l = filled_keys l.entries ≡ filled_keys l.initial.entries

abbrev pub decreases-loop-entry : goal.decreases-loop-entry
decreases-loop-entry l = length l.entries
