use Rattle.tab_laws.proofs.Ending.{can_end, reached_can_end}
use Rattle.tab_laws.proofs.laws.all_transactions_can_end.Goals as goal

pub returns-clause-can_end : goal.returns-clause-can_end
returns-clause-can_end c = can_end

pub returns-clause-reached : goal.returns-clause-reached
returns-clause-reached c = reached_can_end
