use Rattle.std.proofs.Common.{refl, subst}
use Rattle.tab_core.specs.Parts.{parts_of}
use Rattle.tab_core.proofs.Answering as answering
use Rattle.tab_core.proofs.machine.Machine.schema.Goals as goal

pub returns-in-Refused : goal.returns-in-Refused
returns-in-Refused g c = record {
  done = λ k. answering.schema_refused (parts_of c.args.self.now) k c.args.schema c.in-Refused.reply (subst (Rattle.tab_tables.specs.Redefines.Redefines c.args.self.now.catalog c.args.schema) c.in-Refused.is c.in_ok-reply.ensures) c.without_entry.result c.without_entry.ensures;
  agree = λ k. k.agree;
  same = refl;
  err = tt;
}
