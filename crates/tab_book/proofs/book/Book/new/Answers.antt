use Rattle.std.proofs.Common.{length, subst, sym}
use Rattle.tab_model.specs.State.{State, new}
use Rattle.tab_journal.specs.Journals.{JournalView}
use Rattle.tab_book.specs.Running.{Holds}
use Rattle.tab_book.proofs.Keeping.{new_holds}
use Rattle.tab_book.proofs.Logging.{new_run}
use Rattle.tab_book.proofs.book.Book.new.Goals as goal

pub invariant_of-result : goal.invariant_of-result
invariant_of-result g c =
    let seen = length c.named-register.result.1 in (
      subst (λ (σ : State). Holds seen σ c.in_ok-journal.journal) (sym c.new-2.ensures)
          (subst (λ (j : JournalView). Holds seen (new c.args.limits) j) (sym c.in_ok-journal.ensures) (new_holds seen c.args.limits c.args.limits.journal c.args.limits.journal_bytes c.requires.journal c.requires.journal_bytes)),
      new_run c.args.limits c.new.result c.new-2.result c.new.ensures c.new-2.ensures,
    )
