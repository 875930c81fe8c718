use Rattle.tab_session.proofs.ReplayedLemmas.{nothing_if}
use Rattle.tab_session.proofs.replaying.replay.Goals as goal

pub returns-in_default-clause-bytes : goal.returns-in_default-clause-bytes
returns-in_default-clause-bytes g c = nothing_if c.args.outbox _ _
