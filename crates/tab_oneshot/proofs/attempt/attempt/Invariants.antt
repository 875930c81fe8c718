use Rattle.std.proofs.Common.{◌≡◌, length}
use Rattle.std.specs.Vec.Iter.{into_iter_items, into_iter_len}
use Rattle.tab_oneshot.proofs.Attempting.{Going}
use Rattle.tab_oneshot.proofs.attempt.attempt.Given as goal

abbrev pub invariant-loop-part : goal.invariant-loop-part
invariant-loop-part g l = Going g.S.Steps.shows l.initial.steps l.steps l.fn.parts.items (into_iter_items l.part-iterator) l.initial.levels l.levels l.skipped
    × (into_iter_len l.part-iterator ≡ length (into_iter_items l.part-iterator))
