use Rattle.std.proofs.Common.{sym, ap, ◌∙◌, true}
use Rattle.std.specs.List.{list_any}
use Rattle.std.specs.Option.{option_copied}
use Rattle.tab_model.specs.State.{is_in}
use Rattle.tab_locks.proofs.Lookups.{found_any}
use Rattle.tab_locks.proofs.TableLocks.{locked_at}
use Rattle.tab_locks.proofs.tables.Tables.is_locked.Goals as goal

pub returns-in-Some : goal.returns-in-Some
returns-in-Some c =
    c.is_occupied.ensures ∙ ap (found_any (list_any (λ s. true))) (ap option_copied (sym c.in-Some.is) ∙ c.get.ensures.value)
    ∙ sym (locked_at c.args.table.now c.self.inside.tables.entries c.self.invariant.ordered) ∙ ap (list_any (is_in c.args.table.now)) c.self.view_is

pub returns-in-None : goal.returns-in-None
returns-in-None c =
    ap (found_any (list_any (λ s. true))) (ap option_copied (sym c.in-None.is) ∙ c.get.ensures.value)
    ∙ sym (locked_at c.args.table.now c.self.inside.tables.entries c.self.invariant.ordered) ∙ ap (list_any (is_in c.args.table.now)) c.self.view_is
