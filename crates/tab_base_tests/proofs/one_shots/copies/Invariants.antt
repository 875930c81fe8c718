use Rattle.std.proofs.Common.{◌≡◌, take}
use Rattle.tab_base_tests.proofs.one_shots.copies.Given as goal

abbrev pub invariant-loop-part : goal.invariant-loop-part
invariant-loop-part l = l.copies.items ≡ take l.part-index l.parts
