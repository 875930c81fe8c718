use Rattle.tab_model.proofs.CallersLemmas.{step_observed}
use Rattle.tab_model.proofs.CallersPosts.{schedule_as_told}
use Rattle.tab_model.proofs.laws.callers_tell_the_log.Goals as goal

pub returns-clause-state : goal.returns-clause-state
returns-clause-state c = schedule_as_told

pub returns-clause-step : goal.returns-clause-step
returns-clause-step c = step_observed
