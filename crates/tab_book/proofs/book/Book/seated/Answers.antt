use Rattle.std.proofs.Common.{◌≡◌, ◌≢◌, ◌+◌, ℕ, List, [], ◌∷◌, ◌++◌, Some, length, sym, ap, ◌∙◌, subst, arith}
use Rattle.std.specs.Prelude.{IfOk}
use Rattle.tab_model.specs.State.{Session, State, session_at}
use Rattle.tab_post.specs.Ends.{as_outbox, empty_outbox, mailbox_of, received}
use Rattle.tab_book.specs.Logs.{Made, joined, IsWholeRun}
use Rattle.tab_book.specs.Running.{Running, Holds}
use Rattle.tab_book.specs.Steps.{has_free_seat, with_new_session, Joins, KeepsPosts}
use Rattle.tab_book.proofs.Keeping.{join_posts, keeps_own, holds_more, joined_holds, unseen}
use Rattle.tab_book.proofs.Logging.{join_makes, logged_run}
use Rattle.tab_book.proofs.book.Book.seated.Goals as goal
use Rattle.tab_book.proofs.book.Book.seated.Goals.{in-Ok, in-Err+in-None-1, in-Err+in-Some-1}

pub seat-requires : goal.seat-requires
seat-requires g c = record {
  sound = c.self.invariant.0.sound;
  room = ap (λ (b : Running). has_free_seat b.state) c.self.view_is ∙ sym c.has_free_seat.ensures ∙ c.if-not-has_free_seat.false;
  number = ap (λ k. k + 1) c.greatest-session.ensures;
}

pub invariant_of-self : goal.invariant_of-self
invariant_of-self g c =
    let seen = length c.self.inside.prefix in
    let more = length c.enter-post.new.prefix in
    let σ = c.self.inside.core in
    let j = c.self.inside.journal in
    let fresh = c.enter-post.ensures.fresh in
    let room = ap (λ (b : Running). has_free_seat b.state) c.self.view_is ∙ sym c.has_free_seat.ensures ∙ c.if-not-has_free_seat.false in
    elim c.match-seat.branch [
      | in-Ok w ↦ (
        joined_holds seen more σ c.seat.new.core j c.self.invariant.0
            (ap (λ (b : Running). has_free_seat b.state) c.self.view_is ∙ sym c.has_free_seat.ensures ∙ c.if-not-has_free_seat.false) (c.greatest-session.result + 1) (ap (λ k. k + 1) c.greatest-session.ensures)
            (as_outbox c.enter-post.result.0) (mailbox_of c.enter-post.result.1) c.enter-post.ensures.new.outbox fresh.0 fresh.1 w.in-Ok.ensures.ok c.seat.ensures.sound,
        logged_run σ c.seat.new.core c.self.inside.log c.seat.new.log (joined (c.greatest-session.result + 1) c.place-mailbox.result) c.self.invariant.1
            (join_makes σ c.seat.new.core (c.greatest-session.result + 1) c.place-mailbox.result c.self.invariant.0.sound room (ap (λ k. k + 1) c.greatest-session.ensures)
            (w.in-Ok.ensures.ok ∙ ap (with_new_session σ (c.greatest-session.result + 1)) (c.enter-post.ensures.new.outbox ∙ ap empty_outbox (sym c.place-mailbox.ensures))))
            w.in-Ok.ensures.logged,
      )
      | in-Err+in-None-1 w ↦ (
        subst (λ (x : State). Holds more x j) (sym w.in-Err.ensures.err)
            (holds_more seen more σ j (omega (arith, fresh.0, fresh.1)) c.self.invariant.0),
        subst (λ (l : List Made). IsWholeRun l c.seat.new.core) (sym w.in-Err.ensures.unlogged) (subst (λ (x : State). IsWholeRun c.self.inside.log x) (sym w.in-Err.ensures.err) c.self.invariant.1),
      )
      | in-Err+in-Some-1 w ↦ (
        subst (λ (x : State). Holds more x j) (sym w.in-Err.ensures.err)
            (holds_more seen more σ j (omega (arith, fresh.0, fresh.1)) c.self.invariant.0),
        subst (λ (l : List Made). IsWholeRun l c.seat.new.core) (sym w.in-Err.ensures.unlogged) (subst (λ (x : State). IsWholeRun c.self.inside.log x) (sym w.in-Err.ensures.err) c.self.invariant.1),
      )
    ]

pub returns-clause-ok : goal.returns-clause-ok
returns-clause-ok g c =
    let after : Running = record { state = c.seat.new.core; journal = c.self.inside.journal; log = c.seat.new.log } in
    elim c.match-seat.branch [
      | in-Ok w ↦ subst (λ x. IfOk x (λ r. Joins c.args.self.now r.0 (mailbox_of r.1) (received r.1) after)) (sym w.result-is) (record {
        room = sym c.has_free_seat.ensures ∙ c.if-not-has_free_seat.false;
        number = ap (λ k. k + 1) c.greatest-session.ensures ∙ ap (λ (b : Running). b.state.greatest + 1) c.self.view_is;
        state = w.in-Ok.ensures.ok ∙ ap (with_new_session c.self.inside.core (c.greatest-session.result + 1)) c.enter-post.ensures.new.outbox ∙ ap (λ (b : Running). with_new_session b.state (c.greatest-session.result + 1) (empty_outbox (mailbox_of c.enter-post.result.1))) c.self.view_is;
        nothing_taken = c.enter-post.ensures.new.taken;
        fresh = subst (λ (b : Running). (n : ℕ) (s : Session) → session_at b.state.sessions n ≡ Some s → s.outbox.mailbox ≢ Some (mailbox_of c.enter-post.result.1)) c.self.view_is
            (unseen (length c.self.inside.prefix) c.self.inside.core (mailbox_of c.enter-post.result.1) c.self.invariant.0.places c.enter-post.ensures.fresh.0);
        journal = ap (λ (b : Running). b.journal) c.self.view_is;
        logged = w.in-Ok.ensures.logged ∙ (λ i. Running.log (c.self.view_is i) ++ joined (c.greatest-session.result + 1) (c.place-mailbox.ensures i) ∷ []);
      })
      | in-Err+in-None-1 w ↦ subst (λ x. IfOk x (λ r. Joins c.args.self.now r.0 (mailbox_of r.1) (received r.1) after)) (sym w.result-is) tt
      | in-Err+in-Some-1 w ↦ subst (λ x. IfOk x (λ r. Joins c.args.self.now r.0 (mailbox_of r.1) (received r.1) after)) (sym w.result-is) tt
    ]

pub returns-clause-posts : goal.returns-clause-posts
returns-clause-posts g c =
    subst (λ (b : Running). KeepsPosts b.state c.seat.new.core) c.self.view_is
    (elim c.match-seat.branch [
      | in-Ok w ↦ subst (λ (x : State). KeepsPosts c.self.inside.core x) (sym w.in-Ok.ensures.ok)
          (join_posts c.self.inside.core (c.greatest-session.result + 1) (as_outbox c.enter-post.result.0) c.self.invariant.0.sound
          (ap (λ (b : Running). has_free_seat b.state) c.self.view_is ∙ sym c.has_free_seat.ensures ∙ c.if-not-has_free_seat.false)
          (ap (λ k. k + 1) c.greatest-session.ensures))
      | in-Err+in-None-1 w ↦ subst (λ (x : State). KeepsPosts c.self.inside.core x) (sym w.in-Err.ensures.err) (keeps_own c.self.inside.core)
      | in-Err+in-Some-1 w ↦ subst (λ (x : State). KeepsPosts c.self.inside.core x) (sym w.in-Err.ensures.err) (keeps_own c.self.inside.core)
    ])
