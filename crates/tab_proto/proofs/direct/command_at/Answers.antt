use Rattle.tab_proto.proofs.DirectLemmas.{call_at}
use Rattle.tab_proto.proofs.direct.command_at.Goals as goal

pub returns : goal.returns
returns c =
    let spelled = c.in-Ok-command_of.ensures.ok in (
      call_at _ _ _ _ _ _ c.args.levels _ _ c.in-Some.ensures c.in_ok-arguments.ensures.some (c.in_ok-word-2.ensures c.args.levels c.requires) c.in_ok-arguments.ensures.read spelled.0,
      spelled.1,
    )
