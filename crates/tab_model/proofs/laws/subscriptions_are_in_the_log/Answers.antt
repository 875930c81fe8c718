use Rattle.tab_model.proofs.InForce.{stands_in_force}
use Rattle.tab_model.proofs.laws.subscriptions_are_in_the_log.Goals as goal

pub returns-clause-in_force : goal.returns-clause-in_force
returns-clause-in_force c = stands_in_force
