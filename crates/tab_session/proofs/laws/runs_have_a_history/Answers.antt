use Rattle.tab_session.proofs.RunLaws.{run_leads}
use Rattle.tab_session.proofs.laws.runs_have_a_history.Goals as goal

pub returns : goal.returns
returns c = record {
  sound = λ outbox σ ps xs s. (run_leads outbox σ ps xs s).sound;
  rising = λ outbox σ ps xs s. (run_leads outbox σ ps xs s).rising;
  tied = λ outbox σ ps xs s. (run_leads outbox σ ps xs s).tied;
  told = λ outbox σ ps xs s. (run_leads outbox σ ps xs s).told;
  observed = λ outbox σ ps xs s. (run_leads outbox σ ps xs s).observed;
}
