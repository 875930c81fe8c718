use Rattle.std.proofs.Common.{◌≡◌, length}
use Rattle.tab_lists.specs.ByKey.{at_keys}
use Rattle.tab_lists.proofs.merged.Picked.take.Given as goal

abbrev pub invariant-loop-key : goal.invariant-loop-key
invariant-loop-key l = (l.self.entries ≡ l.initial.self.entries) × (at_keys l.self.keys l.self.entries.now ≡ at_keys l.initial.self.keys l.initial.self.entries.now)

abbrev pub decreases-loop-key : goal.decreases-loop-key
decreases-loop-key l = length l.self.keys
