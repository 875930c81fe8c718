use Rattle.std.proofs.Common.{◌≡◌, ◌*◌, ◌+◌, length}
use Rattle.std.specs.Vec.Iter.{into_iter_items, into_iter_len}
use Rattle.tab_term.specs.Data.{weight, nodes}
use Rattle.tab_term.specs.View.{term}
use Rattle.tab_proto.proofs.PartsLemmas.{AreRead}
use Rattle.tab_proto.proofs.parts.+parts.Given as goal

abbrev pub decreases-push_parts : goal.decreases-push_parts
decreases-push_parts l = 4 * nodes l.members + 1

abbrev pub decreases-push_part : goal.decreases-push_part
decreases-push_part l = 4 * weight (term l.member)

abbrev pub decreases-push_unary : goal.decreases-push_unary
decreases-push_unary l = 4 * weight (term l.argument) + 3

abbrev pub decreases-push_inner : goal.decreases-push_inner
decreases-push_inner l = 4 * weight (term l.argument) + 2

abbrev pub invariant-push_parts-loop-member : goal.invariant-push_parts-loop-member
invariant-push_parts-loop-member l = AreRead l.fn.members l.initial.parts.items l.parts.items (into_iter_items l.member-iterator) × (into_iter_len l.member-iterator ≡ length (into_iter_items l.member-iterator))
