use Rattle.std.proofs.Common.{sym, ap, ◌∙◌}
use Rattle.std.specs.List.{list_any}
use Rattle.std.specs.Option.{option_copied}
use Rattle.tab_model.specs.State.{is_in}
use Rattle.tab_locks.proofs.FirstTable.{locked_first, locked_others}
use Rattle.tab_locks.proofs.index.Index.is_locked.Goals as goal

pub returns-in-Some : goal.returns-in-Some
returns-in-Some c =
    let found = sym (ap option_copied (sym c.in-Some.is) ∙ c.under.ensures) in
    c.is_occupied.ensures ∙ sym (locked_first c.args.table.now c.in-Some.spots.now c.self.inside.first c.self.inside.others found c.self.invariant)
    ∙ ap (list_any (is_in c.args.table.now)) c.self.view_is

pub returns-in-None : goal.returns-in-None
returns-in-None c =
    let missing = sym (ap option_copied (sym c.in-None.is) ∙ c.under.ensures) in
    c.is_locked.ensures ∙ sym (locked_others c.args.table.now c.self.inside.first c.self.inside.others missing)
    ∙ ap (list_any (is_in c.args.table.now)) c.self.view_is
