use Rattle.tab_model.proofs.ReachedWaits.{schedule_chain}
use Rattle.tab_model.proofs.WaitsHaveNoCycle.{chain_rises}
use Rattle.tab_model.proofs.laws.waits_have_no_cycle.Goals as goal

pub returns-clause-chain : goal.returns-clause-chain
returns-clause-chain c = chain_rises

pub returns-clause-reached_chain : goal.returns-clause-reached_chain
returns-clause-reached_chain c = schedule_chain
