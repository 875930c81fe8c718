-- What is released is said by what the session held others up by before the step and after it.
use Rattle.std.proofs.Common.{◌≡◌, Bool, false, ◌&&◌, refl, ap, sym, ◌∙◌, subst}
use Rattle.std.specs.Prelude.{Ok, nat_lt}
use Rattle.tab_model.specs.declared.data.Reply.{Reply}
use Rattle.tab_model.specs.State.{State}
use Rattle.tab_model.specs.Standing.{may_enter}
use Rattle.tab_journal.specs.Journals.{is_full}
use Rattle.tab_book.specs.declared.step.Transition.{Transition}
use Rattle.tab_book.specs.declared.steps.Holdup.{Holdup}
use Rattle.tab_book.specs.declared.steps.Standing.{Standing}
use Rattle.tab_book.specs.Running.{Running}
use Rattle.tab_book.specs.Steps.{ask_of, has_to_fold, KeepsPosts}
use Rattle.tab_book.specs.Transitions.{counted_levels, ended_by, is_leave, is_restart}
use Rattle.tab_book.proofs.Keeping.{HasMadeRoom, room_made, room_there, steps_to, nothing_entered}
use Rattle.tab_book.proofs.Releasing.{says_releases}
use Rattle.tab_book.proofs.book.Book.answered.Goals as goal
use Rattle.tab_book.proofs.book.Book.answered.Goals.{then-full+then-may_enter+in_ok-make_room, else-full, else-full-via-then-full+else-may_enter, else-full-via-else-full}

pub returns : goal.returns
returns g c =
    let n = c.args.session in
    let a = ask_of c.args.step in
    let old = c.args.self.now in
    let made : HasMadeRoom old c.if-full.self n a = elim c.if-full.branch [
      | then-full+then-may_enter+in_ok-make_room w ↦
          let room = w.in_ok-make_room.ensures in
          subst (λ (b : Running). HasMadeRoom old b n a) (sym w.self-is) (room_made old w.make_room.new.self n a (sym w.if-may_enter.ensures) room.state room.log room.folds room.room)
      | else-full w ↦
          let none : has_to_fold old.state n a old.journal ≡ false = elim w.else-full.branch [
            | else-full-via-then-full+else-may_enter w' ↦ nothing_entered (is_full old.journal) (may_enter old.state n a) (sym w'.if-may_enter.ensures)
            | else-full-via-else-full w' ↦ ap (λ b. b && may_enter old.state n a) (ap (λ (b : Running). is_full b.journal) (sym c.self.view_is) ∙ sym w'.if-full.ensures)
          ] in
          room_there old c.if-full.self n a none w.self-is
    ] in
    let done = steps_to {E = Unit {0}} (Ok c.in_ok-told.told) old c.if-full.self c.make.new.self n a made c.in_ok-told.ensures.done in
    record {
      done = done;
      free = λ h k. refl;
      err = tt;
      posts = subst (λ (σ : State). KeepsPosts σ c.make.new.self.state) (ap (λ (b : Running). b.state) made.3) c.make.ensures.posts;
      releases = says_releases (λ (s : Holdup). s.open) (λ (s : Holdup). s.waits) c.holdup-before.result old.state c.make.new.self.state done.step.over _ _ _ _ done.step.entry c.lets_go-releases.result c.retries-retries.result
          c.holdup-before.ensures c.retries-retries.ensures done.step.core c.lets_go-releases.ensures.ended c.lets_go-releases.ensures.dropped c.lets_go-releases.ensures.restarted c.reply.ensures;
      transaction =
          c.transition-transaction.ensures
          ∙ ap (λ (s : Standing). after s c.ends_session-leaves.result c.reply-2.result.now) c.standing-stood.ensures
          ∙ ap (λ l. after (stood old.state) l c.reply-2.result.now) c.ends_session-leaves.ensures
          ∙ ap (after (stood old.state) (is_leave a)) c.reply-2.ensures;
    }
  where
    stood : State → Standing
    stood σ = record { levels = counted_levels σ c.args.session; commits = σ.commits }

    after : Standing → Bool → Reply → Transition
    after s l r =
        let μ = c.make.new.self.state in
        record { before = s.levels; after = counted_levels μ c.args.session; ended = ended_by s.levels (counted_levels μ c.args.session) (nat_lt s.commits μ.commits) l (is_restart r) }
