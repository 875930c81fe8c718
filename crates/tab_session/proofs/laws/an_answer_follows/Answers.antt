use Rattle.tab_session.proofs.RunLaws.{said_each, said_once}
use Rattle.tab_session.proofs.laws.an_answer_follows.Goals as goal

pub returns-clause-each : goal.returns-clause-each
returns-clause-each c = said_each

pub returns-clause-once : goal.returns-clause-once
returns-clause-once c = said_once
