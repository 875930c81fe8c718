use Rattle.std.proofs.Common.{sym, ap, ◌∙◌}
use Rattle.std.specs.List.{slice_get}
use Rattle.std.specs.Option.{option_copied}
use Rattle.std.proofs.lemmas.Result.{IfOk-weaker}
use Rattle.tab_index.specs.Indexed.{Pending}
use Rattle.tab_index.proofs.BacklogLemmas.{parts_before}
use Rattle.tab_index.proofs.backlog.Backlog.parts.Goals as goal

pub returns-in-Some-deleted : goal.returns-in-Some-deleted
returns-in-Some-deleted c =
    let rows = c.args.self.now.0 in
    let first = ap (λ (b : Pending). slice_get b.1 0) (sym c.self.view_is) ∙ ap (λ us. slice_get us 0) (sym c.deref.ensures.value) ∙ sym c.in-Some.ensures.value in
    let deletes = sym c.deleted.ensures ∙ ap option_copied c.in-Some-deleted.is in
    IfOk-weaker c.first_deletions.result _ _ (λ parts all. parts_before rows.0 rows.1 parts.items c.args.self.now.1 c.in-Some.first.now c.in-Some-deleted.key.now first deletes all) c.first_deletions.ensures
