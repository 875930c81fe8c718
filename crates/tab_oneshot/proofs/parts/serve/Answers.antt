use Rattle.std.proofs.Common.{List, subst, sym, ◌∙◌}
use Rattle.tab_oneshot.specs.Calls.{Call}
use Rattle.tab_oneshot.specs.Attempts.{Serves}
use Rattle.tab_oneshot.specs.Parts.{turn_of}
use Rattle.tab_oneshot.proofs.HandingIn.{part_of_abort, part_of_operation}
use Rattle.tab_oneshot.proofs.parts.serve.Goals as goal

pub returns-in-Do : goal.returns-in-Do
returns-in-Do g c =
    subst (λ p. (more : List Call) × g.S.Steps.shows c.args.steps.now more c.operate.new.steps × Serves p c.args.levels.now more (turn_of c.operate.result c.operate.new.levels))
    (sym (part_of_operation c.args.part c.in-Do.operation (sym c.into_command.ensures ∙ c.in-Do.is))) c.operate.ensures

pub returns-in-Abort : goal.returns-in-Abort
returns-in-Abort g c =
    subst (λ p. (more : List Call) × g.S.Steps.shows c.args.steps.now more c.abort.new.steps × Serves p c.args.levels.now more (turn_of c.abort.result c.abort.new.levels))
    (sym (part_of_abort c.args.part c.in-Abort.reason (sym c.into_command.ensures ∙ c.in-Abort.is))) c.abort.ensures
