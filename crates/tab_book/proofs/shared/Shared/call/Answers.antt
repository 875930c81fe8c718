use Rattle.std.proofs.Common.{◌≡◌, ◌∙◌, sym}
use Rattle.tab_model.specs.declared.data.Reply.TheVariants as reply
use Rattle.tab_book.proofs.Seeing.{call_waits}
use Rattle.tab_book.proofs.shared.Shared.call.Goals as goal
use Rattle.tab_book.proofs.shared.Shared.call.Goals.{in-Waiting, in_default}

pub returns-then-matches-clause-reply : goal.returns-then-matches-clause-reply
returns-then-matches-clause-reply g c =
    let waits : c.in_ok-told.told ≡ reply.Waiting = elim c.match-matches.branch [
      | in-Waiting w ↦ sym c.reply.ensures ∙ w.in-Waiting.is
      | in_default w ↦ absurd (cc (w.matches-is, c.if-matches.true))
    ] in
    call_waits c.args.seen.now c.step.new.seen c.retry.new.seen c.args.seat.now c.args.command c.in_ok-told.told c.retry.result c.in_ok-told.ensures.reply waits c.retry.ensures.reply
