use Rattle.std.proofs.Common.{◌≡◌, [], ap, subst}
use Rattle.std.specs.Prelude.{MatchOption}
use Rattle.tab_term.specs.View.{term}
use Rattle.tab_model.specs.Names.{plain_terms}
use Rattle.tab_model.specs.Tables.{Rows, at}
use Rattle.tab_rows.proofs.Cells.{at_entry}
use Rattle.tab_rows.proofs.rows.Rows.entry.Goals as goal

pub returns : goal.returns
returns c =
    let k = term c.args.key.now in
    subst (λ (rows : Rows). MatchOption c.get_entry.result (at rows k ≡ []) (λ e. e.now.1 ≡ plain_terms (at rows k))) (ap (λ v. v.1) c.self.view_is)
    (at_entry c.self.inside.records c.args.key.now c.get_entry.result c.self.invariant.order c.get_entry.ensures.value)
