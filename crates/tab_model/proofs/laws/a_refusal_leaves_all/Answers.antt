use Rattle.std.proofs.Common.{◌≡◌, refl, ap, ◌∙◌}
use Rattle.tab_model.specs.declared.data.Reply.{Reply}
use Rattle.tab_model.specs.Refusals.{AsBefore, effect_of_reply, LeavesAll}
use Rattle.tab_model.proofs.RefusalLaws.{as_before}
use Rattle.tab_model.proofs.laws.a_refusal_leaves_all.Goals as goal

leaves : (r : Reply) → effect_of_reply r ≡ AsBefore → LeavesAll r
leaves r h σ over n a e = as_before σ over n a (ap effect_of_reply e ∙ h)

pub returns-clause-bad_session : goal.returns-clause-bad_session
returns-clause-bad_session c = leaves _ refl

pub returns-clause-no_transaction : goal.returns-clause-no_transaction
returns-clause-no_transaction c = leaves _ refl

pub returns-clause-waiting_now : goal.returns-clause-waiting_now
returns-clause-waiting_now c = leaves _ refl

pub returns-clause-in_transaction : goal.returns-clause-in_transaction
returns-clause-in_transaction c = leaves _ refl

pub returns-clause-not_waiting : goal.returns-clause-not_waiting
returns-clause-not_waiting c = leaves _ refl

pub returns-clause-system_limit : goal.returns-clause-system_limit
returns-clause-system_limit c = λ l. leaves _ refl

pub returns-clause-already_exists : goal.returns-clause-already_exists
returns-clause-already_exists c = λ t. leaves _ refl

pub returns-clause-locked : goal.returns-clause-locked
returns-clause-locked c = λ t. leaves _ refl

pub returns-clause-bad_definition : goal.returns-clause-bad_definition
returns-clause-bad_definition c = λ t what. leaves _ refl

pub returns-clause-unknown_table : goal.returns-clause-unknown_table
returns-clause-unknown_table c = λ t. leaves _ refl

pub returns-clause-already_subscribed : goal.returns-clause-already_subscribed
returns-clause-already_subscribed c = λ t. leaves _ refl

pub returns-clause-not_subscribed : goal.returns-clause-not_subscribed
returns-clause-not_subscribed c = λ t. leaves _ refl

pub returns-clause-overflow_untold : goal.returns-clause-overflow_untold
returns-clause-overflow_untold c = leaves _ refl
