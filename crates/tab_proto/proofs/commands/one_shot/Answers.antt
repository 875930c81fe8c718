use Rattle.std.proofs.Common.{refl}
use Rattle.tab_proto.proofs.PartsLemmas.{one_shot_is}
use Rattle.tab_proto.proofs.commands.one_shot.Goals as goal

pub returns-clause-ok : goal.returns-clause-ok
returns-clause-ok c =
    rw c.in_ok-parts.ensures (one_shot_is _ _ _ _ _ _ _ c.new-parts.ensures.items c.in_ok-push_parts.ensures.ok refl c.in_ok-members.ensures.ok c.in_ok-retries.ensures.ok.0 c.in_ok-retries.ensures.ok.1)
