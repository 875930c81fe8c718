use Rattle.std.proofs.Common.{refl}
use Rattle.tab_model.specs.declared.ask.Ask.TheVariants.{Do as DoCommand}
use Rattle.tab_core.proofs.Answering.{unseated}
use Rattle.tab_core.proofs.machine.Machine.command.Goals as goal
use Rattle.tab_core.specs.Parts.{parts_of}

pub returns-in_default-clause-done : goal.returns-in_default-clause-done
returns-in_default-clause-done g c = unseated (parts_of c.args.self.now) c.args.session c.in_default.ensures (DoCommand c.args.command) refl c.without_entry.result c.without_entry.ensures
