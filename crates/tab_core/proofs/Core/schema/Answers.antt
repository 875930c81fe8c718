use Rattle.std.proofs.Common.{sym, ◌∙◌}
use Rattle.tab_core.proofs.MachineSteps.{differ}
use Rattle.tab_core.proofs.MarksLemmas.{free}
use Rattle.tab_core.proofs.TellsLemmas.{schema_refused_first, schema_told}
use Rattle.tab_core.proofs.Core.schema.Goals as goal

pub returns-in-Some-clause-done : goal.returns-in-Some-clause-done
returns-in-Some-clause-done g c =
    schema_refused_first c.args.self.now c.args.session c.args.schema c.in-Some.refusal (sym c.in-Some.is ∙ c.schema_refusal.ensures) c.without_entry.result c.without_entry.ensures

pub returns-clause-free : goal.returns-clause-free
returns-clause-free g c h = absurd (differ _ h (schema_told c.args.self.now c.args.session c.args.schema (free _ _ c.in_default.not-Some c.schema_refusal.ensures)))
