use Rattle.std.proofs.Common.{rules, ◌≡◌, ◌-◌, ◌∷◌, suc, refl, sym, ◌∙◌, ap, arith, length, subst, List}
use Rattle.std.specs.Vec.Iter.{into_iter_items, into_iter_len}
use Rattle.tab_oneshot.specs.Calls.{Call}
use Rattle.tab_oneshot.specs.Attempts.{Serves}
use Rattle.tab_oneshot.specs.Parts.{turn_of}
use Rattle.tab_oneshot.proofs.Attempting.{going_first, going_past, going_on, going_over, going_done, still_long}
use Rattle.tab_oneshot.proofs.attempt.attempt.Goals as goal

pub loop-part-init : goal.loop-part-init
loop-part-init g c =
    let gives = c.into_iter-part-iterator.ensures.into_iter_gives in
    (going_first g.S.Steps.shows _ _ _ _ gives.0 (g.met.S.Steps.shows_none _), search rules)

pub loop-part-preserved-then-skipped-gt0 : goal.loop-part-preserved-then-skipped-gt0
loop-part-preserved-then-skipped-gt0 g c =
    let e : c.loop-part.skipped ≡ suc (c.loop-part.skipped - 1) = omega arith in (
      going_past g.S.Steps.shows _ _ _ _ _ _ _ _ (c.loop-part.skipped - 1) _ c.in-Some.part c.in-Some.ensures.steps.0 e (c.passed-skipped.ensures _ e) c.loop-part.invariant.0,
      still_long _ _ _ _ c.in-Some.part c.loop-part.invariant.1 c.in-Some.ensures.steps.0 c.in-Some.ensures.steps.1,
    )

pub loop-part-preserved-in-GoOn : goal.loop-part-preserved-in-GoOn
loop-part-preserved-in-GoOn g c =
    let z : c.loop-part.skipped ≡ 0 = omega arith in (
      going_on g.S.Steps.shows g.met.S.Steps.shows_on _ _ _ _ _ _ _ _ _ _ _ c.in-Some.part c.in-Some.ensures.steps.0 z (omega (arith, z)) c.loop-part.invariant.0
          (rw z (subst (λ t. (calls : List Call) × g.S.Steps.shows c.loop-part.steps calls c.serve.new.steps × Serves c.in-Some.part c.loop-part.levels calls (turn_of t c.serve.new.levels)) c.in-GoOn.is c.serve.ensures)),
      still_long _ _ _ _ c.in-Some.part c.loop-part.invariant.1 c.in-Some.ensures.steps.0 c.in-Some.ensures.steps.1,
    )

pub loop-part-preserved : goal.loop-part-preserved
loop-part-preserved g c = (
  going_on g.S.Steps.shows g.met.S.Steps.shows_on _ _ _ _ _ _ _ _ _ _ _ c.in-Some.part c.in-Some.ensures.steps.0 (omega arith) (omega arith) c.loop-part.invariant.0
      (subst (λ t. (calls : List Call) × g.S.Steps.shows c.loop-part.steps calls c.serve.new.steps × Serves c.in-Some.part c.loop-part.levels calls (turn_of t c.serve.new.levels)) c.in-Skip.is c.serve.ensures),
  still_long _ _ _ _ c.in-Some.part c.loop-part.invariant.1 c.in-Some.ensures.steps.0 c.in-Some.ensures.steps.1,
)

pub returns-in-Over : goal.returns-in-Over
returns-in-Over g c =
    going_over g.S.Steps.shows g.met.S.Steps.shows_on _ _ _ _ _ (into_iter_items c.next.new.self) _ _ _ c.in-Some.part _ _ c.in-Some.ensures.steps.0 (omega arith) (refl, refl) c.loop-part.invariant.0
    (subst (λ t. (calls : List Call) × g.S.Steps.shows c.loop-part.steps calls c.serve.new.steps × Serves c.in-Some.part c.loop-part.levels calls (turn_of t c.serve.new.levels)) c.in-Over.is c.serve.ensures)

pub returns-in-Restart : goal.returns-in-Restart
returns-in-Restart g c =
    going_over g.S.Steps.shows g.met.S.Steps.shows_on _ _ _ _ _ (into_iter_items c.next.new.self) _ _ _ c.in-Some.part _ _ c.in-Some.ensures.steps.0 (omega arith) (refl, refl) c.loop-part.invariant.0
    (subst (λ t. (calls : List Call) × g.S.Steps.shows c.loop-part.steps calls c.serve.new.steps × Serves c.in-Some.part c.loop-part.levels calls (turn_of t c.serve.new.levels)) c.in-Restart.is c.serve.ensures)

pub returns : goal.returns
returns g c =
    going_done g.S.Steps.shows g.met.S.Steps.shows_on _ _ _ _ _ _ _ _ _ (sym c.loop-part.invariant.1 ∙ c.in-None.ensures.steps.0) c.loop-part.invariant.0 c.commit.ensures

pub passed-skipped-requires-clause-room : goal.passed-skipped-requires-clause-room
passed-skipped-requires-clause-room g c = omega (arith, c.loop-part.invariant.0.below, ap length c.in-Some.ensures.steps.0)
