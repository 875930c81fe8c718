use Rattle.std.proofs.Common.{rules, List, subst}
use Rattle.std.specs.Prelude.{Option}
use Rattle.tab_model.specs.declared.data.Reply.{Reply}
use Rattle.tab_oneshot.specs.Calls.{Call}
use Rattle.tab_oneshot.specs.Attempts.{Ends}
use Rattle.tab_oneshot.specs.OneShots.{IsTried}
use Rattle.tab_oneshot.proofs.Attempting.{trying_first, trying_again, trying_over, trying_no_more}
use Rattle.tab_oneshot.proofs.driver.attempts.Goals as goal

pub loop-restart-init : goal.loop-restart-init
loop-restart-init g c = record { tries = trying_first g.S.Steps.shows _ _ _ (g.met.S.Steps.shows_none _); levels = c.new-levels.ensures; first = c.into_vec-first.ensures }

pub loop-restart-preserved : goal.loop-restart-preserved
loop-restart-preserved g c = record {
  tries = trying_again g.S.Steps.shows g.met.S.Steps.shows_on _ _ _ _ _ _ _ c.loop-restart-test.true c.loop-restart.invariant.tries
      (subst (λ (o : Option Reply). (calls : List Call) × g.S.Steps.shows c.loop-restart.steps calls c.attempt_with.new.steps × IsTried c.args.parts calls o) c.in_default.is (c.attempt_with.ensures _ c.requires (search rules))) c.begin_anew.ensures.again;
  levels = c.begin_anew.ensures.levels;
  first = search rules;
}

pub returns-in-Some : goal.returns-in-Some
returns-in-Some g c =
    trying_over g.S.Steps.shows g.met.S.Steps.shows_on _ _ _ _ _ _ _ c.loop-restart.invariant.tries
    (subst (λ (o : Option Reply). (calls : List Call) × g.S.Steps.shows c.loop-restart.steps calls c.attempt_with.new.steps × IsTried c.args.parts calls o) c.in-Some.is (c.attempt_with.ensures _ c.requires (search rules)))

pub returns-in-Some-attempt_with : goal.returns-in-Some-attempt_with
returns-in-Some-attempt_with g c =
    trying_over g.S.Steps.shows g.met.S.Steps.shows_on _ _ _ _ _ _ _ c.loop-restart.invariant.tries
    (subst (λ (o : Option Reply). (calls : List Call) × g.S.Steps.shows c.loop-restart.steps calls c.attempt_with-2.new.steps × IsTried c.args.parts calls o) c.in-Some-attempt_with.is (c.attempt_with-2.ensures _ c.requires (search rules)))

pub returns : goal.returns
returns g c =
    trying_no_more g.S.Steps.shows g.met.S.Steps.shows_on _ _ _ _ _ _ _ _ c.loop-restart-test.false c.loop-restart.invariant.tries
    (subst (λ (o : Option Reply). (calls : List Call) × g.S.Steps.shows c.loop-restart.steps calls c.attempt_with-2.new.steps × IsTried c.args.parts calls o) c.in-None.is (c.attempt_with-2.ensures _ c.requires (search rules)))
    (subst (λ (q : Reply). (more : List Call) × g.S.Steps.shows c.attempt_with-2.new.steps more c.end.new.steps × Ends 1 q more c.end.result) c.new.ensures c.end.ensures)
