use Rattle.tab_laws.proofs.Following.{only_granted}
use Rattle.tab_laws.proofs.Retrying.{reached_only_granted}
use Rattle.tab_laws.proofs.laws.the_only_transaction_is_granted.Goals as goal

pub returns-clause-granted : goal.returns-clause-granted
returns-clause-granted c = only_granted

pub returns-clause-reached : goal.returns-clause-reached
returns-clause-reached c = reached_only_granted
