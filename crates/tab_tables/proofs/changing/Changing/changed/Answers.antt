use Rattle.std.proofs.Common.{ap, sym, ◌∙◌}
use Rattle.std.specs.Str.{bytes_eq}
use Rattle.tab_model.specs.Operations.{table_of_change, change_catalog}
use Rattle.tab_model.specs.Tables.{rows_after}
use Rattle.tab_model.specs.Catalogs.{place, with_rows}
use Rattle.tab_tables.specs.Newer.{with_newer}
use Rattle.tab_tables.proofs.ChangingLemmas.{changed_beside}
use Rattle.tab_tables.proofs.changing.Changing.changed.Goals as goal

pub returns-then-eq : goal.returns-then-eq
returns-then-eq c =
    let w = c.self.inside.catalog in
    let t = c.in-Some.table in
    let change = c.args.update.now in
    let named = ap (λ d. bytes_eq d.name (table_of_change change)) (sym c.def.ensures) ∙ ap (bytes_eq c.def.result.now.name) (sym c.in_ok-name.ensures) ∙ sym c.if-eq.ensures in
    ap (place w) (c.in_ok-table-2.ensures ∙ ap (λ v. with_rows v (rows_after v.def.kind v.rows c.from_ref-updates.result.now)) c.in_ok-table.ensures ∙ ap (λ cs. with_rows t (rows_after t.def.kind t.rows cs)) c.from_ref-updates.ensures.value)
    ∙ changed_beside w t change named
    ∙ ap (λ v. change_catalog v change) (ap (with_newer w) (sym c.in-Some.is) ∙ c.self.view_is)
