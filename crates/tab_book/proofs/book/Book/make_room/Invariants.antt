use Rattle.std.proofs.Common.{◌≡◌, length}
use Rattle.tab_book.specs.Steps.{FoldsWhileFull}
use Rattle.tab_book.proofs.book.Book.make_room.Given as goal

abbrev pub invariant-loop-self : goal.invariant-loop-self
invariant-loop-self g l = (l.self.state ≡ l.initial.self.state) × FoldsWhileFull l.initial.self.state l.initial.self.journal l.self.journal × (l.self.log ≡ l.initial.self.log)

abbrev pub decreases-loop-self : goal.decreases-loop-self
decreases-loop-self g l = length l.self.journal.entries
