use Rattle.std.proofs.Common.{◌≡◌, take, refl, sym, ap₂, ◌∙◌, subst}
use Rattle.tab_model.specs.declared.data.Kind.{Kind}
use Rattle.tab_model.specs.Tables.{Rows, rows_after}
use Rattle.tab_index.specs.Indexed.{LeadsTo, Pending}
use Rattle.tab_index.proofs.BacklogLemmas.{settled_lead}
use Rattle.tab_index.proofs.backlog.Backlog.settle.Goals as goal

pub returns-clause-leads : goal.returns-clause-leads
returns-clause-leads c = λ def rows leads.
    let was = subst (LeadsTo def rows) (sym c.self.view_is) leads in
    let parts = c.in_ok-parts.parts.items in
    let early = subst (λ (b : Pending). rows_after b.0.0 (rows_after b.0.0 b.0.1 parts) b.1 ≡ rows_after b.0.0 b.0.1 b.1) (sym c.self.view_is) c.in_ok-parts.ensures in
    let some = c.in_ok-change_both.ensures.rows ∙ ap₂ (λ (r : Kind × Rows) cs. (r.0, rows_after r.0 r.1 cs)) c.in_ok-rows.ensures c.deref.ensures.value in
    let made = c.in_ok-change_both-2.ensures.rows ∙ ap₂ (λ (r : Kind × Rows) cs. (r.0, rows_after r.0 r.1 (take c.fitting-made.result.0 cs))) refl c.deref-2.ensures.value in
    settled_lead def rows _ _ _ parts _ _ was early some made c.in_ok-left.ensures.tail
