use Rattle.std.proofs.Common.{refl, sym}
use Rattle.tab_model.specs.declared.data.Command.TheVariants as command
use Rattle.tab_model.specs.declared.ask.Ask.TheVariants.{Join, Leave, Retry, Take, Do as DoCommand}
use Rattle.tab_model.proofs.Entering.{schema_may, subscribe_may, unsubscribe_may, never_of}
use Rattle.tab_model.proofs.laws.these_steps_may_enter.Goals as goal

pub returns-clause-schema : goal.returns-clause-schema
returns-clause-schema c = λ σ n s. sym (schema_may σ n s)

pub returns-clause-subscribe : goal.returns-clause-subscribe
returns-clause-subscribe c = λ σ n t l dump. sym (subscribe_may σ n t l dump)

pub returns-clause-unsubscribe : goal.returns-clause-unsubscribe
returns-clause-unsubscribe c = λ σ n t l. sym (unsubscribe_may σ n t l)

pub returns-clause-table_info : goal.returns-clause-table_info
returns-clause-table_info c = λ σ n t i. never_of σ n (DoCommand (command.TableInfo t i)) refl refl

pub returns-clause-begin : goal.returns-clause-begin
returns-clause-begin c = λ σ n. never_of σ n (DoCommand command.Begin) refl refl

pub returns-clause-abort : goal.returns-clause-abort
returns-clause-abort c = λ σ n r. never_of σ n (DoCommand (command.Abort r)) refl refl

pub returns-clause-operation : goal.returns-clause-operation
returns-clause-operation c = λ σ n o. never_of σ n (DoCommand (command.Do o)) refl refl

pub returns-clause-one_shot : goal.returns-clause-one_shot
returns-clause-one_shot c = λ σ n parts retries. never_of σ n (DoCommand (command.OneShot parts retries)) refl refl

pub returns-clause-join : goal.returns-clause-join
returns-clause-join c = λ σ n b. never_of σ n (Join b) refl refl

pub returns-clause-leave : goal.returns-clause-leave
returns-clause-leave c = λ σ n. never_of σ n Leave refl refl

pub returns-clause-retry : goal.returns-clause-retry
returns-clause-retry c = λ σ n. never_of σ n Retry refl refl

pub returns-clause-take : goal.returns-clause-take
returns-clause-take c = λ σ n. never_of σ n Take refl refl
