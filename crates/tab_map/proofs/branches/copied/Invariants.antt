use Rattle.std.proofs.Common.{◌≡◌, take}
use Rattle.tab_map.proofs.branches.copied.Given as goal

abbrev pub invariant-loop-branch : goal.invariant-loop-branch
invariant-loop-branch g l = l.copies.items ≡ take l.branch-index l.branches
