use Rattle.std.proofs.Common.{ap, ap₂, sym, ◌∙◌}
use Rattle.tab_term.specs.View.{term}
use Rattle.tab_model.specs.Tables.{at, key}
use Rattle.tab_rows.proofs.RestoredLemmas.{keyed_at}
use Rattle.tab_rows.proofs.rows.Rows.exchange_only.Goals as goal

pub invariant_of-result : goal.invariant_of-result
invariant_of-result c =
    let here = c.in_ok-key.ensures ∙ ap (λ r. key (term r)) c.row.ensures in
    keyed_at _ (term c.in_ok-key.key) c.in_ok-entry.entry (c.in_ok-to_entry.ensures.key ∙ sym here) c.in_ok-entry.ensures.keyed

pub returns-clause-former : goal.returns-clause-former
returns-clause-former c =
    let here = c.in_ok-key.ensures ∙ ap (λ r. key (term r)) c.row.ensures in
    ap₂ (λ k rows. (k, rows)) here (c.in_ok-entry.ensures.former ∙ ap (at c.args.self.now.1) c.in_ok-to_entry.ensures.key)
