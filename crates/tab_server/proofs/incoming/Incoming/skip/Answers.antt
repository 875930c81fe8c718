use Rattle.std.proofs.Common.{length, not, refl, sym, ◌∙◌, ap, take}
use Rattle.tab_post.proofs.Prefixes.{prefix_self}
use Rattle.tab_server.proofs.Placing.{some_bytes}
use Rattle.tab_server.proofs.Streaming.{answers_none, passed_by}
use Rattle.tab_server.proofs.incoming.Incoming.skip.Goals as goal

pub returns-then-not-self-clause-answer : goal.returns-then-not-self-clause-answer
returns-then-not-self-clause-answer c n seen at i = answers_none n seen seen (prefix_self seen) at c.args.self.now i

pub returns-then-is_empty-clause-answer : goal.returns-then-is_empty-clause-answer
returns-then-is_empty-clause-answer c n seen at i = answers_none n seen seen (prefix_self seen) at c.args.self.now i

pub returns-clause-answer : goal.returns-clause-answer
returns-clause-answer c n seen at i =
    passed_by n seen at (take c.pass-count.result c.args.piece.now) c.args.self.now _ i c.if-not-self.false refl (ap not c.is_between.ensures) (c.pass-count.ensures.passes at i.at (some_bytes (length c.args.piece.now) (sym c.is_empty.ensures ∙ c.if-is_empty.false)))
