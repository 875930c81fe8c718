use Rattle.tab_model.proofs.StandingLemmas.{step_follows, fold_follows, forget_follows, history_of, commits_are, sent_is, watched_is, sent_grows}
use Rattle.tab_model.proofs.laws.a_state_follows_from_its_journal.Goals as goal

pub returns-clause-step : goal.returns-clause-step
returns-clause-step c = λ past log b σ. step_follows past b log σ

pub returns-clause-fold : goal.returns-clause-fold
returns-clause-fold c = λ past log b e σ. fold_follows past b e log σ

pub returns-clause-forget : goal.returns-clause-forget
returns-clause-forget c = λ past log b σ n. forget_follows past b log σ n

pub returns-clause-history : goal.returns-clause-history
returns-clause-history c = λ past log b σ. history_of past b log σ

pub returns-clause-sent : goal.returns-clause-sent
returns-clause-sent c = λ past log b σ n s k here. sent_is past b log σ k n s here

pub returns-clause-grows : goal.returns-clause-grows
returns-clause-grows c = λ past log more b σ τ n s r k here h there. sent_grows past b log σ k n s here more τ r h there

pub returns-clause-watching : goal.returns-clause-watching
returns-clause-watching c = λ past log b σ n s t k here. watched_is past b log σ k n s here t

pub returns-clause-commits : goal.returns-clause-commits
returns-clause-commits c = λ past log b σ. commits_are past b log σ
