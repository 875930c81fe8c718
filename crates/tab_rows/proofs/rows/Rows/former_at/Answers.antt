use Rattle.std.proofs.Common.{Some, None, ap, sym, ◌∙◌, subst}
use Rattle.tab_term.specs.View.{term}
use Rattle.tab_model.specs.Names.{terms_list}
use Rattle.tab_model.specs.Tables.{at}
use Rattle.tab_rows.specs.Restored.{HasRecordsOf}
use Rattle.tab_rows.proofs.RestoredLemmas.{former_keyed, former_records}
use Rattle.tab_rows.proofs.rows.Rows.former_at.Goals as goal

pub invariant_of-result : goal.invariant_of-result
invariant_of-result c =
    subst (HasRecordsOf (term c.args.key)) (sym c.in_ok-try_clone-in-Some.ensures)
    (former_keyed c.self.inside.records c.args.key (Some c.in-Some.entry.now) c.self.invariant.order c.in-Some.ensures.value)

pub returns-in_ok-try_clone-in-Some : goal.returns-in_ok-try_clone-in-Some
returns-in_ok-try_clone-in-Some c =
    let k = term c.args.key in
    ap (λ rows. (k, rows)) (ap (λ e. terms_list e.1) c.in_ok-try_clone-in-Some.ensures
    ∙ former_records c.self.inside.records c.args.key (Some c.in-Some.entry.now) c.self.invariant.order c.in-Some.ensures.value ∙ ap (λ v. at v.1 k) c.self.view_is)

pub returns-in-None : goal.returns-in-None
returns-in-None c =
    let k = term c.args.key in
    ap (λ rows. (k, rows)) (former_records c.self.inside.records c.args.key None c.self.invariant.order c.in-None.ensures.value ∙ ap (λ v. at v.1 k) c.self.view_is)
