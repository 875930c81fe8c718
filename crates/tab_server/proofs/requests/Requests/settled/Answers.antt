use Rattle.std.proofs.Common.{◌≡◌, sym, ap, ◌∙◌}
use Rattle.tab_model.specs.declared.data.Reply.TheVariants as reply
use Rattle.tab_oneshot.specs.Calls.{answer_in}
use Rattle.tab_server.proofs.Serving.{waited_reply}
use Rattle.tab_server.proofs.requests.Requests.settled.Goals as goal
use Rattle.tab_server.proofs.requests.Requests.settled.Goals.{in-Waiting, in_default}

pub returns-in-Some-Ok-clause-reply : goal.returns-in-Some-Ok-clause-reply
returns-in-Some-Ok-clause-reply g c =
    let waits : c.args.told ≡ reply.Waiting = elim c.match-matches.branch [
      | in-Waiting w ↦ sym c.reply.ensures ∙ w.in-Waiting.is
      | in_default w ↦ absurd (cc (w.matches-is, c.if-not-matches.false))
    ] in
    waited_reply c.args.self.now.seat c.args.self.now.held.seen c.wait.new.self.held.seen c.args.told c.in-Some-Ok.reply c.in-Some-Ok.field-0 waits (ap answer_in c.in-Some-Ok.field-0-is) c.in-Some-Ok.ensures.shown.0.0

pub returns-clause-reply : goal.returns-clause-reply
returns-clause-reply g c =
    let waits : c.args.told ≡ reply.Waiting = elim c.match-matches.branch [
      | in-Waiting w ↦ sym c.reply.ensures ∙ w.in-Waiting.is
      | in_default w ↦ absurd (cc (w.matches-is, c.if-not-matches.false))
    ] in
    waited_reply c.args.self.now.seat c.args.self.now.held.seen c.wait.new.self.held.seen c.args.told c.new.result c.in-Some-Err.field-0 waits (ap answer_in c.in-Some-Err.field-0-is ∙ sym c.new.ensures) c.in-Some-Err.ensures.shown.0.0
