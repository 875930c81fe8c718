use Rattle.std.proofs.Common.{ap, ◌∙◌}
use Rattle.tab_model.specs.Tables.{at}
use Rattle.tab_model.specs.declared.data.Change.TheVariants as change
use Rattle.tab_rows.proofs.RestoredLemmas.{undone_by, undone_if}
use Rattle.tab_rows.proofs.rows.Rows.exchange.Goals as goal

pub returns-in-Set-Only-clause-former : goal.returns-in-Set-Only-clause-former
returns-in-Set-Only-clause-former c =
    undone_if c.self.inside.records c.args.self.now c.exchange_only.new.self (change.Write c.in-Set-Only.only) c.exchange_only.result c.self.invariant.order (ap (λ v. v.1) c.self.view_is)
    c.exchange_only.ensures.ok c.exchange_only.ensures.former

pub returns-clause-former : goal.returns-clause-former
returns-clause-former c =
    undone_by c.self.inside.records c.args.self.now c.update.new.self c.args.update.now c.in_ok-former.former c.self.invariant.order (ap (λ v. v.1) c.self.view_is) c.in_ok-update.ensures.ok
    (c.in_ok-former.ensures ∙ ap (λ k. (k, at c.args.self.now.1 k)) c.in_ok-key.ensures)
