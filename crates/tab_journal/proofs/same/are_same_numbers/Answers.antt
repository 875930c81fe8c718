use Rattle.std.proofs.Common.{sym}
use Rattle.tab_journal.proofs.SameLemmas.{numbers_differ}
use Rattle.tab_journal.proofs.same.are_same_numbers.Goals as goal

pub returns-then-ones-others : goal.returns-then-ones-others
returns-then-ones-others c = sym (numbers_differ _ _ c.if-ones-others.true)
