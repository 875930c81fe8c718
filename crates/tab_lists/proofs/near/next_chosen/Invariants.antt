use Rattle.std.proofs.Common.{◌≡◌, length}
use Rattle.std.specs.List.{filter}
use Rattle.tab_lists.specs.Conditions.{meets}
use Rattle.tab_lists.proofs.near.next_chosen.Given as goal

-- what is left to be given is as it was
abbrev pub invariant-loop-first : goal.invariant-loop-first
invariant-loop-first l = filter (meets l.condition) l.near ≡ filter (meets l.condition) l.initial.near

abbrev pub decreases-loop-first : goal.decreases-loop-first
decreases-loop-first l = length l.near
