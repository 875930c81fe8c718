use Rattle.std.proofs.Common.{◌≡◌, Some, subst, sym}
use Rattle.tab_model.specs.State.{Session, State, session_at}
use Rattle.tab_post.specs.Ends.{mailbox_of, received}
use Rattle.tab_book.specs.declared.step.Drained.TheVariants.{AllTaken}
use Rattle.tab_book.specs.Inboxes.{Drains}
use Rattle.tab_book.specs.Running.{Running}
use Rattle.tab_book.proofs.Draining.{taken_there_at, apart_at}
use Rattle.tab_book.proofs.book.Book.next_at.Goals as goal

pub told_overflow-requires : goal.told_overflow-requires
told_overflow-requires g c =
    subst (λ (σ : State). (s : Session) × (session_at σ.sessions c.args.session ≡ Some s)) (sym c.meet.ensures.same)
    (taken_there_at (record { state = c.self.inside.core; journal = c.self.inside.journal; log = c.self.inside.log }) c.args.session _ _ _ c.meet.result c.in-Some-All.field-0 c.in-Some-All.is c.in-Some-All.field-0-is c.meet.ensures.met)

pub returns-in-Some-Apart-clause-drained : goal.returns-in-Some-Apart-clause-drained
returns-in-Some-Apart-clause-drained g c =
    let b : Running = record { state = c.self.inside.core; journal = c.self.inside.journal; log = c.self.inside.log } in
    let before = received c.args.inbox.now in
    let after = received c.meet.new.end in
    let m = mailbox_of c.args.inbox.now in
    subst (λ (old : Running). Drains old c.args.session m before AllTaken after (record { state = c.meet.new.self; journal = c.self.inside.journal; log = c.self.inside.log })) c.self.view_is
    (subst (λ (σ : State). Drains b c.args.session m before AllTaken after (record { state = σ; journal = c.self.inside.journal; log = c.self.inside.log })) (sym c.meet.ensures.same)
    (apart_at b c.args.session m before after c.meet.result c.in-Some-Apart.field-0 c.in-Some-Apart.is c.in-Some-Apart.field-0-is c.meet.ensures.met))
