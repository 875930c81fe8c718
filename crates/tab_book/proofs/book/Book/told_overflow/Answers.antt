use Rattle.std.proofs.Common.{length, ◌≡◌, ◌∙◌, [], ◌∷◌, ◌++◌, Some, subst, sym}
use Rattle.tab_model.specs.State.{Session, session_at}
use Rattle.tab_model.specs.declared.ask.Ask.TheVariants.{Take}
use Rattle.tab_book.specs.declared.step.Drained.TheVariants.{AllTaken, Overflow}
use Rattle.tab_book.specs.Inboxes.{TellsOverflow}
use Rattle.tab_book.specs.Logs.{made}
use Rattle.tab_book.specs.Running.{Running}
use Rattle.tab_book.specs.Steps.{KeepsPosts}
use Rattle.tab_book.proofs.Draining.{tells, tells_none}
use Rattle.tab_book.proofs.Logging.{logged_run}
use Rattle.tab_book.proofs.Keeping.{keeps_own, take_holds, step_posts}
use Rattle.tab_book.proofs.book.Book.told_overflow.Goals as goal

pub returns-in_default-clause-told : goal.returns-in_default-clause-told
returns-in_default-clause-told g c =
    let n = c.args.session in
    let there : (s : Session) × (session_at c.self.inside.core.sessions n ≡ Some s) = subst (λ (b : Running). (s : Session) × (session_at b.state.sessions n ≡ Some s)) (sym c.self.view_is) c.requires in
    subst (λ (b : Running). (s : Session) × (session_at b.state.sessions n ≡ Some s) × TellsOverflow b n s.overflow AllTaken b) c.self.view_is
    (tells_none c.self.inside.core c.self.inside.journal c.self.inside.log n there.0 there.1 c.overflow.result c.overflow.ensures c.in_default.is)

pub returns-in_default-clause-posts : goal.returns-in_default-clause-posts
returns-in_default-clause-posts g c = keeps_own c.args.self.now.state

pub invariant_of-self : goal.invariant_of-self
invariant_of-self g c =
    let done = c.take.ensures.done in (
      take_holds (length c.self.inside.prefix) c.self.inside.core c.self.inside.journal c.self.invariant.0 done.0 c.args.session _ done.2 c.take.ensures.sound,
      logged_run c.self.inside.core c.take.new.self c.self.inside.log c.add.new.self (made c.args.session Take c.take.result.reply) c.self.invariant.1 (record { over = done.0; entry = c.take.result.entry; allowed = done.1; core = done.2 })
          (c.add.ensures ∙ (λ i. c.self.inside.log ++ made c.args.session (c.of-request.ensures i) (c.into_reply-told.ensures i) ∷ [])),
    )

pub returns : goal.returns
returns g c =
    let n = c.args.session in
    let done = c.take.ensures.done in
    let there : (s : Session) × (session_at c.self.inside.core.sessions n ≡ Some s) = subst (λ (b : Running). (s : Session) × (session_at b.state.sessions n ≡ Some s)) (sym c.self.view_is) c.requires in
    record {
      told = subst (λ (b : Running). (s : Session) × (session_at b.state.sessions n ≡ Some s) × TellsOverflow b n s.overflow (Overflow c.in-Some.number) (record { state = c.take.new.self; journal = c.self.inside.journal; log = c.add.new.self })) c.self.view_is
          (tells c.self.inside.core c.self.inside.journal c.self.inside.log n there.0 there.1 c.overflow.result c.overflow.ensures done.0 _ c.self.invariant.0.stands.channels done.2 c.in-Some.number c.in-Some.is c.add.new.self (c.add.ensures ∙ (λ i. c.self.inside.log ++ made c.args.session (c.of-request.ensures i) (c.into_reply-told.ensures i) ∷ [])));
      posts = subst (λ (b : Running). KeepsPosts b.state c.take.new.self) c.self.view_is
          (step_posts (length c.self.inside.prefix) c.self.inside.core c.self.inside.journal c.self.invariant.0 done.0 n Take _ done.2);
    }
