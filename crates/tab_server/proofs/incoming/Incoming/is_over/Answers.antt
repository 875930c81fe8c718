use Rattle.std.proofs.Common.{sym, ◌∙◌}
use Rattle.tab_server.proofs.Streaming.{over_answered}
use Rattle.tab_server.proofs.incoming.Incoming.is_over.Goals as goal

pub returns : goal.returns
returns c over n seen bytes i = over_answered n seen bytes c.args.self.now i c.if-not-self.false (sym c.is_over.ensures ∙ over)
