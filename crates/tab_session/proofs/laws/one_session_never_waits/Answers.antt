use Rattle.tab_session.proofs.RunLaws.{said_alone}
use Rattle.tab_session.proofs.laws.one_session_never_waits.Goals as goal

pub returns : goal.returns
returns c = said_alone
