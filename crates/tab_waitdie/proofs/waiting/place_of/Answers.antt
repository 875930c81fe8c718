use Rattle.std.proofs.Common.{eq-eqb}
use Rattle.tab_waitdie.proofs.Places.{before_place, request_place, none_placed}
use Rattle.tab_waitdie.proofs.waiting.place_of.Goals as goal

pub returns-then-waiting-age-clause-before : goal.returns-then-waiting-age-clause-before
returns-then-waiting-age-clause-before c = before_place c.args.age c.args.queue.now c.loop-place.place c.index-queue-place.result c.loop-place-test.true c.loop-place.invariant c.index-queue-place.is (eq-eqb c.index-queue-place.result.age c.args.age c.if-waiting-age.true)

pub returns-then-waiting-age-clause-request : goal.returns-then-waiting-age-clause-request
returns-then-waiting-age-clause-request c = λ d. request_place c.args.age c.args.queue.now c.loop-place.place c.index-queue-place.result d c.loop-place-test.true c.loop-place.invariant c.index-queue-place.is (eq-eqb c.index-queue-place.result.age c.args.age c.if-waiting-age.true)

pub unreachable-requires : goal.unreachable-requires
unreachable-requires c = none_placed c.args.age c.args.queue.now c.loop-place.place c.loop-place-test.false c.loop-place.invariant c.requires
