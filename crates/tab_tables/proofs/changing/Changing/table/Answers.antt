use Rattle.std.proofs.Common.{sym, ap, ◌∙◌}
use Rattle.std.specs.Str.{bytes_eq}
use Rattle.tab_model.specs.Catalogs.{find}
use Rattle.tab_tables.specs.Newer.{with_newer}
use Rattle.tab_tables.proofs.EventLemmas.{found_beside, found_elsewhere}
use Rattle.tab_tables.proofs.changing.Changing.table.Goals as goal

pub returns-then-eq : goal.returns-then-eq
returns-then-eq c =
    let w = c.self.inside.catalog in
    let name = c.args.name.now in
    found_beside w c.in-Some.newer name (ap (λ d. bytes_eq d.name name) (sym c.def.ensures) ∙ sym c.if-eq.ensures)
    ∙ ap (λ v. find v name) (ap (with_newer w) (sym c.in-Some.is) ∙ c.self.view_is)

pub returns : goal.returns
returns c =
    let w = c.self.inside.catalog in
    let name = c.args.name.now in
    c.table-2.ensures
    ∙ found_elsewhere w c.in-Some.newer name (ap (λ d. bytes_eq d.name name) (sym c.def.ensures) ∙ sym c.if-eq.ensures)
    ∙ ap (λ v. find v name) (ap (with_newer w) (sym c.in-Some.is) ∙ c.self.view_is)
