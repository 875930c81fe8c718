use Rattle.tab_model.proofs.ReachedWaits.{step_rising}
use Rattle.tab_model.proofs.TiedSteps.{step_tied}
use Rattle.tab_model.proofs.laws.steps_keep_what_holds.Goals as goal

pub returns-clause-tied : goal.returns-clause-tied
returns-clause-tied c = step_tied

pub returns-clause-rising : goal.returns-clause-rising
returns-clause-rising c = step_rising
