use Rattle.std.proofs.Common.{sym, ◌∙◌}
use Rattle.tab_core.proofs.committing.expected.Goals as goal

pub returns-clause-owes : goal.returns-clause-owes
returns-clause-owes g c = (sym c.in_ok-watched.ensures ∙ c.if-not-watched.false, c.in_ok-updated.ensures)
