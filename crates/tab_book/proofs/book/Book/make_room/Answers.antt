use Rattle.std.proofs.Common.{sym, ap, ◌∙◌}
use Rattle.tab_model.specs.State.{State}
use Rattle.tab_journal.specs.Journals.{is_full}
use Rattle.tab_book.specs.Running.{Running}
use Rattle.tab_book.specs.Steps.{folded}
use Rattle.tab_book.proofs.Keeping.{one_more_fold}
use Rattle.tab_book.proofs.book.Book.make_room.Goals as goal

pub loop-self-preserved : goal.loop-self-preserved
loop-self-preserved g c =
    let old = c.args.self.now in
    let now = c.loop-self.self in
    let made = c.in_ok-fold.ensures.ok in (
      ap (λ (b : Running). b.state) made ∙ c.loop-self.invariant.0,
      one_more_fold old.state old.journal now.journal c.fold.new.self.journal c.loop-self.invariant.1
          (ap (λ (b : Running). is_full b.journal) (sym c.self.view_is) ∙ sym c.loop-self-test.ensures)
          (ap (λ (b : Running). b.journal) made ∙ ap (λ (σ : State). folded σ now.journal) c.loop-self.invariant.0),
      ap (λ (b : Running). b.log) made ∙ c.loop-self.invariant.2,
    )
