use Rattle.std.proofs.Common.{ap, sym, ◌∙◌, subst, [], ◌∷◌}
use Rattle.tab_model.specs.Outcome.{with_items}
use Rattle.tab_model.specs.State.{Outbox}
use Rattle.tab_outbox.specs.Mailboxes.{Tells}
use Rattle.tab_outbox.specs.declared.mailbox.Met.{Met}
use Rattle.tab_outbox.specs.declared.mailbox.Met.TheVariants.{Going}
use Rattle.tab_post.specs.Ends.{empty_outbox, mailbox_of, received}
use Rattle.tab_uses.proofs.MailboxLemmas.{is_left, is_taken}
use Rattle.tab_uses.proofs.mailboxes.exchanged.Goals as goal

pub unreachable-requires : goal.unreachable-requires
unreachable-requires g c =
    let n = mailbox_of c.args.inbox.now in
    let x = c.args.item in
    let before = received c.args.inbox.now in
    let after = received c.meet.new.end in
    let put = c.in_ok-put.ensures.ok ∙ ap (λ (b : Outbox). with_items b (x ∷ [])) c.requires.outbox in
    is_left n x c.meet.result before after c.requires.taken (subst (λ (b : Outbox). Tells b n before c.meet.result after) put c.meet.ensures.met) c.in-Apart.is

pub returns-clause-taken : goal.returns-clause-taken
returns-clause-taken g c =
    let n = mailbox_of c.args.inbox.now in
    let x = c.args.item in
    let before = received c.args.inbox.now in
    let after = received c.meet.new.end in
    let put = c.in_ok-put.ensures.ok ∙ ap (λ (b : Outbox). with_items b (x ∷ [])) c.requires.outbox in
    let tells = subst (λ (b : Outbox). Tells b n before c.meet.result after) put c.meet.ensures.met in
    let going = subst (λ (m : Met). Tells (with_items (empty_outbox n) (x ∷ [])) n before m after) c.in-Going.is tells in
    let taken = is_taken n x c.in-Going.taken before after c.requires.taken going in
    record {
      same = taken.0;
      put = c.meet.ensures.outbox ∙ put ∙ ap (λ k. with_items (empty_outbox k) (x ∷ [])) (sym c.meet.ensures.end.1);
      all = taken.1;
    }
