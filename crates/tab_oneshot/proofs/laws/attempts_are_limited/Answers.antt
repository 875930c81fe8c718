use Rattle.tab_oneshot.proofs.LastReplies.{begins_anew}
use Rattle.tab_oneshot.proofs.laws.attempts_are_limited.Goals as goal

pub returns : goal.returns
returns c = begins_anew
