use Rattle.std.proofs.lemmas.Result.{IfOk-weaker}
use Rattle.tab_rows.proofs.RestoredLemmas.{former_keyed, former_records}
use Rattle.tab_rows.proofs.rows.replace.Goals as goal

pub returns-clause-former : goal.returns-clause-former
returns-clause-former c = IfOk-weaker c.replace_entry.result _ _ (λ o found. former_records c.args.by_key.now c.args.entry.0 o c.requires found) c.replace_entry.ensures.replaced

pub returns-clause-keyed : goal.returns-clause-keyed
returns-clause-keyed c = IfOk-weaker c.replace_entry.result _ _ (λ o found. former_keyed c.args.by_key.now c.args.entry.0 o c.requires found) c.replace_entry.ensures.replaced
