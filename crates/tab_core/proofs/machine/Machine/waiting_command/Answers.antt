use Rattle.std.proofs.Common.{◌∙◌}
use Rattle.tab_core.proofs.Answering.{waiting_default}
use Rattle.tab_core.proofs.machine.Machine.waiting_command.Goals as goal
use Rattle.tab_core.specs.Parts.{parts_of}

pub returns : goal.returns
returns g c = record {
  done = waiting_default (parts_of c.args.self.now) c.args.session c.args.place c.requires.there c.requires.waits c.args.asked.value (λ r e. c.in_default.not-Abort r (c.into_value.ensures ∙ e));
  kept = c.requires.kept;
}
