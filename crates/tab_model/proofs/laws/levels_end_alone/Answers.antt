use Rattle.tab_model.proofs.RefusalLaws.{operation_failed, retry_failed, aborted}
use Rattle.tab_model.proofs.laws.levels_end_alone.Goals as goal

pub returns-clause-failed : goal.returns-clause-failed
returns-clause-failed c = operation_failed

pub returns-clause-retried : goal.returns-clause-retried
returns-clause-retried c = retry_failed

pub returns-clause-aborted : goal.returns-clause-aborted
returns-clause-aborted c = aborted
