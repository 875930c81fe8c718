use Rattle.std.proofs.Common.{◌≡◌, [], ◌∷◌, ◌++◌, ap, sym, ◌∙◌}
use Rattle.tab_model.specs.declared.ask.Ask.TheVariants.{Join}
use Rattle.tab_model.specs.declared.data.Reply.TheVariants as reply
use Rattle.tab_model.specs.Outcome.{Outcome}
use Rattle.tab_post.specs.Ends.{as_outbox, empty_outbox}
use Rattle.tab_book.specs.Logs.{made}
use Rattle.tab_book.proofs.Keeping.{joins_made}
use Rattle.tab_book.proofs.book.seat.Goals as goal

pub returns-clause-ok : goal.returns-clause-ok
returns-clause-ok g c =
    let done = c.in_ok-stepped.ensures.done in
    ap (λ (o : Outcome). o.state) (sym done.2 ∙ joins_made c.args.core.now done.0 c.args.session (as_outbox c.args.post) c.requires.sound c.requires.room c.requires.number)

pub returns-clause-logged : goal.returns-clause-logged
returns-clause-logged g c =
    let done = c.in_ok-stepped.ensures.done in
    let told : c.into_reply-told.result ≡ reply.Done = c.into_reply-told.ensures ∙ ap (λ (o : Outcome). o.reply) (sym done.2 ∙ joins_made c.args.core.now done.0 c.args.session (as_outbox c.args.post) c.requires.sound c.requires.room c.requires.number) in
    c.add.ensures ∙ ap (λ r. c.args.log.now ++ made c.args.session (Join (empty_outbox c.args.mailbox)) r ∷ []) told
