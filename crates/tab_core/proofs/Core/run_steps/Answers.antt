use Rattle.std.proofs.Common.{◌≡◌, List, [], ◌∷◌, length, refl, ap, sym, subst, ◌∙◌, arith}
use Rattle.std.specs.Vec.Iter.{into_iter_items}
use Rattle.tab_model.specs.State.{IsSound}
use Rattle.tab_model.specs.Reached.{IsRising}
use Rattle.tab_core.specs.Parts.{parts_of}
use Rattle.tab_core.specs.Runs.{asks_of}
use Rattle.tab_core.proofs.RunsLemmas.{IsRunning, goes_on, ends_with, run_keeps, history_goes_on}
use Rattle.tab_core.proofs.StepsLemmas.{rising_of}
use Rattle.tab_core.proofs.Core.run_steps.Goals as goal

no_items : {A : Type 0} (xs : List A) → length xs ≡ 0 → xs ≡ []
no_items [] h = refl
no_items (x ∷ xs) h = absurd (omega arith)

pub loop-session-preserved : goal.loop-session-preserved
loop-session-preserved g c =
    let f = g.P.Post.outbox in
    let inv = c.loop-session.invariant in
    let rest : into_iter_items c.loop-session.session-iterator ≡ (c.in-Some.session, c.in-Some.step) ∷ into_iter_items c.next.new.self = c.in-Some.ensures.steps.0 in
    let before = subst (λ xs. IsRunning f c.args.self.now c.loop-session.self c.args.steps.items xs c.loop-session.replies.items) rest inv.0 in
    let now = goes_on f c.args.self.now c.loop-session.self c.step_reply-reply.new.self c.args.steps.items (into_iter_items c.next.new.self) (c.in-Some.session, c.in-Some.step) c.loop-session.replies.items c.step_reply-reply.result c.step_reply-reply.ensures.0 c.step_reply-reply.ensures.1 before in (
      subst (λ rs. IsRunning f c.args.self.now c.step_reply-reply.new.self c.args.steps.items (into_iter_items c.next.new.self) rs) (sym c.push_reserved.ensures.items) now,
      omega (arith, inv.1, c.push_reserved.ensures.capacity, c.push_reserved.ensures.len, ap length rest),
      omega (arith, inv.2, ap length rest, c.in-Some.ensures.steps.1),
    )

pub returns-in_err-replies-clause-sound : goal.returns-in_err-replies-clause-sound
returns-in_err-replies-clause-sound g c = subst IsSound c.self.view_is c.self.invariant.sound

pub returns-in_err-replies-clause-rising : goal.returns-in_err-replies-clause-rising
returns-in_err-replies-clause-rising g c = subst IsRising c.self.view_is (rising_of (parts_of c.self.inside.machine) c.self.invariant)

pub returns : goal.returns
returns g c =
    let f = g.P.Post.outbox in
    let inv = c.loop-session.invariant in
    let none : into_iter_items c.loop-session.session-iterator ≡ [] = no_items (into_iter_items c.loop-session.session-iterator) (sym inv.2 ∙ c.in-None.ensures.steps.0) in
    let run = ends_with f c.args.self.now c.loop-session.self c.args.steps.items c.loop-session.replies.items (subst (λ xs. IsRunning f c.args.self.now c.loop-session.self c.args.steps.items xs c.loop-session.replies.items) none inv.0) in
    let asks = asks_of f c.args.steps.items in
    let sound = subst IsSound c.self.view_is c.self.invariant.sound in
    let rising = subst IsRising c.self.view_is (rising_of (parts_of c.self.inside.machine) c.self.invariant) in
    let last = run_keeps c.args.self.now c.loop-session.self asks c.loop-session.replies.items run.0 run.1 sound rising in
    record {
      run = (run.0, run.1, history_goes_on c.args.self.now c.loop-session.self asks c.loop-session.replies.items run.0 run.1 c.requires sound);
      err = tt;
      sound = last.0;
      rising = last.1;
    }
