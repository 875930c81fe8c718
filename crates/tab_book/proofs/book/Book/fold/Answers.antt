use Rattle.std.proofs.Common.{length, ap, sym, ◌∙◌}
use Rattle.tab_book.specs.Running.{Running}
use Rattle.tab_book.specs.Steps.{oldest_joined}
use Rattle.tab_book.proofs.Keeping.{fold_kept}
use Rattle.tab_book.proofs.book.Book.fold.Goals as goal

pub invariant_of-self : goal.invariant_of-self
invariant_of-self g c = (
  fold_kept c.fold_oldest.result (length c.self.inside.prefix) c.self.inside.core c.self.inside.journal c.fold_oldest.new.self c.oldest_joined-joined.result c.self.invariant.0
      (c.oldest_joined-joined.ensures ∙ ap (λ (b : Running). oldest_joined b.state b.journal.entries) (sym c.self.view_is)) c.fold_oldest.ensures.ok c.fold_oldest.ensures.err,
  c.self.invariant.1,
)

pub invariant_of-self-2 : goal.invariant_of-self-2
invariant_of-self-2 g c = (
  fold_kept c.fold_oldest.result (length c.self.inside.prefix) c.self.inside.core c.self.inside.journal c.fold_oldest.new.self c.oldest_joined-joined.result c.self.invariant.0
      (c.oldest_joined-joined.ensures ∙ ap (λ (b : Running). oldest_joined b.state b.journal.entries) (sym c.self.view_is)) c.fold_oldest.ensures.ok c.fold_oldest.ensures.err,
  c.self.invariant.1,
)
