use Rattle.std.proofs.Common.{sym, ap, ◌∙◌}
use Rattle.std.specs.Option.{option_copied}
use Rattle.tab_model.specs.Ages.{Owned}
use Rattle.tab_locks.specs.Placed.{owned_by}
use Rattle.tab_locks.proofs.Listing.{listed_own, locks_at}
use Rattle.std.specs.Prelude.{◌==◌, filter}
use Rattle.tab_locks.proofs.lock_table.LockTable.of.Goals as goal

pub returns-in-Some : goal.returns-in-Some
returns-in-Some c =
    let found = sym (ap option_copied (sym c.in-Some.is) ∙ c.get.ensures.value) in
    ap (owned_by c.args.age) (c.as_slice.ensures.value ∙ ap locks_at (sym found))
    ∙ sym (listed_own c.args.age c.self.inside.owners.entries c.self.invariant.ordered)
    ∙ ap (filter (λ (x : Owned). x.0 == c.args.age)) c.self.view_is

pub returns-in-None : goal.returns-in-None
returns-in-None c =
    let missing = sym (ap option_copied (sym c.in-None.is) ∙ c.get.ensures.value) in
    ap (λ o. owned_by c.args.age (locks_at o)) (sym missing)
    ∙ sym (listed_own c.args.age c.self.inside.owners.entries c.self.invariant.ordered)
    ∙ ap (filter (λ (x : Owned). x.0 == c.args.age)) c.self.view_is
