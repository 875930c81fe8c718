use Rattle.std.proofs.Common.{refl}
use Rattle.tab_model.specs.declared.ask.Ask.TheVariants.{Retry}
use Rattle.tab_core.proofs.Answering as answering
use Rattle.tab_core.proofs.machine.Machine.retry.Goals as goal
use Rattle.tab_core.specs.Parts.{parts_of}

pub returns-in_default-clause-done : goal.returns-in_default-clause-done
returns-in_default-clause-done g c = answering.unseated (parts_of c.args.self.now) c.args.session c.in_default.ensures Retry refl c.without_entry.result c.without_entry.ensures
