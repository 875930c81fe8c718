use Rattle.std.proofs.Common.{◌<◌, ◌-◌, ◌++◌, List, ℕ, inl, sym, ◌∙◌, length, take, drop, arith, length-drop}
use Rattle.std.proofs.lemmas.List.{length-take}
use Rattle.tab_server.proofs.Placing.{passes_on, still_at}
use Rattle.tab_server.proofs.place.Place.pass.Goals as goal

some_left : (piece : List ℕ) (n : ℕ) → n < length piece → 0 < length (take (length piece - n) (drop n piece))
some_left piece n lt = omega (arith, length-take (length piece - n) (drop n piece), length-drop n piece)

pub returns-then-is_between-clause-passes : goal.returns-then-is_between-clause-passes
returns-then-is_between-clause-passes c at h some =
    passes_on at c.args.piece.now c.step-count.new.self c.loop-count.count c.step-count.result (c.step-count.ensures.passes (at ++ take c.loop-count.count c.args.piece.now) (c.loop-count.invariant.2 at h) (some_left c.args.piece.now c.loop-count.count c.loop-count-test.true))

pub loop-count-preserved : goal.loop-count-preserved
loop-count-preserved c = (
  omega (arith, c.step-count.ensures.within, length-take (length c.args.piece.now - c.loop-count.count) (drop c.loop-count.count c.args.piece.now), length-drop c.loop-count.count c.args.piece.now),
  λ lt. sym c.is_between.ensures ∙ c.if-is_between.false,
  λ at h. still_at _ _ (sym c.is_between.ensures ∙ c.if-is_between.false) (passes_on at c.args.piece.now c.step-count.new.self c.loop-count.count c.step-count.result (c.step-count.ensures.passes (at ++ take c.loop-count.count c.args.piece.now) (c.loop-count.invariant.2 at h) (some_left c.args.piece.now c.loop-count.count c.loop-count-test.true))),
)

pub returns-clause-passes : goal.returns-clause-passes
returns-clause-passes c at h some = inl (c.loop-count.invariant.2 at h, c.loop-count.invariant.1 (omega arith))
