use Rattle.std.proofs.Common.{◌≡◌, ◌<◌, [], ◌∷◌, ◌++◌, true, false, length, refl, sym, ap, ◌∙◌, subst}
use Rattle.tab_model.specs.declared.data.Reply.{Reply}
use Rattle.tab_core.specs.Runs.{StepsTo as StepsCore}
use Rattle.tab_model.specs.Outcome.{Ask}
use Rattle.tab_model.specs.Standing.{may_enter}
use Rattle.tab_book.specs.Logs.{made}
use Rattle.tab_book.specs.Running.{Running}
use Rattle.tab_book.specs.Steps.{ask_of, leaves, StepsFrom, KeepsPosts}
use Rattle.tab_journal.specs.Journals.{is_full}
use Rattle.tab_book.proofs.Keeping.{one_fits, room_left, made_holds, made_steps, own_ask, step_posts}
use Rattle.tab_book.proofs.Logging.{logged_run}
use Rattle.tab_book.proofs.book.Book.make.Goals as goal
use Rattle.tab_book.proofs.book.Book.make.Goals.{then-leaves, else-leaves}

pub entered-reply-requires : goal.entered-reply-requires
entered-reply-requires g c =
    let n = c.args.session in
    let a = ask_of c.args.step in
    let done = subst (λ (x : Ask). StepsCore c.self.inside.core n x c.in_ok-stepped.stepped c.step.new.self) (c.asked.ensures _) c.in_ok-stepped.ensures.done in
    let room = subst (λ (b : Running). may_enter b.state n a ≡ true → is_full b.journal ≡ false) (sym c.self.view_is) c.requires.room in
    one_fits c.self.inside.core done.0 n a _ (is_full c.self.inside.journal ≡ false) done.2 room

pub invariant_of-self-then-leaves : goal.invariant_of-self-then-leaves
invariant_of-self-then-leaves g c =
    let n = c.args.session in
    let a = ask_of c.args.step in
    let done = subst (λ (x : Ask). StepsCore c.self.inside.core n x c.in_ok-stepped.stepped c.step.new.self) (c.asked.ensures _) c.in_ok-stepped.ensures.done in
    let vacant = subst (λ (b : Running). may_enter b.state n a ≡ true → is_full b.journal ≡ false) (sym c.self.view_is) c.requires.room in
    let room : may_enter c.self.inside.core n a ≡ true → length c.self.inside.journal.entries < c.self.inside.journal.limit = λ may. room_left (length c.self.inside.prefix) c.self.inside.core c.self.inside.journal c.self.invariant.0 (vacant may) in (
      made_holds (length c.self.inside.prefix) c.self.inside.core c.self.inside.journal c.self.invariant.0 done.0 n a _ done.2 (own_ask (length c.self.inside.prefix) c.args.step) c.step.ensures.sound room
          c.entered-reply.new.journal c.forget.new.self c.entered-reply.ensures.journal true (c.if-leaves.ensures ∙ ap (λ (b : Running). leaves b.state n a) (sym c.self.view_is)) c.forget.ensures,
      logged_run c.self.inside.core c.step.new.self c.self.inside.log c.add.new.self (made n a c.in_ok-stepped.stepped.reply) c.self.invariant.1 (record { over = done.0; entry = c.in_ok-stepped.stepped.entry; allowed = done.1; core = done.2 })
          (c.add.ensures ∙ (λ i. c.self.inside.log ++ made n (c.of-request.ensures i) (c.entered-reply.ensures.reply i) ∷ [])),
    )

pub invariant_of-self-else-leaves : goal.invariant_of-self-else-leaves
invariant_of-self-else-leaves g c =
    let n = c.args.session in
    let a = ask_of c.args.step in
    let done = subst (λ (x : Ask). StepsCore c.self.inside.core n x c.in_ok-stepped.stepped c.step.new.self) (c.asked.ensures _) c.in_ok-stepped.ensures.done in
    let vacant = subst (λ (b : Running). may_enter b.state n a ≡ true → is_full b.journal ≡ false) (sym c.self.view_is) c.requires.room in
    let room : may_enter c.self.inside.core n a ≡ true → length c.self.inside.journal.entries < c.self.inside.journal.limit = λ may. room_left (length c.self.inside.prefix) c.self.inside.core c.self.inside.journal c.self.invariant.0 (vacant may) in (
      made_holds (length c.self.inside.prefix) c.self.inside.core c.self.inside.journal c.self.invariant.0 done.0 n a _ done.2 (own_ask (length c.self.inside.prefix) c.args.step) c.step.ensures.sound room
          c.entered-reply.new.journal c.entered-reply.new.journal c.entered-reply.ensures.journal false (c.if-leaves.ensures ∙ ap (λ (b : Running). leaves b.state n a) (sym c.self.view_is)) refl,
      logged_run c.self.inside.core c.step.new.self c.self.inside.log c.add.new.self (made n a c.in_ok-stepped.stepped.reply) c.self.invariant.1 (record { over = done.0; entry = c.in_ok-stepped.stepped.entry; allowed = done.1; core = done.2 })
          (c.add.ensures ∙ (λ i. c.self.inside.log ++ made n (c.of-request.ensures i) (c.entered-reply.ensures.reply i) ∷ [])),
    )

pub returns-clause-done : goal.returns-clause-done
returns-clause-done g c =
    let n = c.args.session in
    let a = ask_of c.args.step in
    let σ = c.self.inside.core in
    let j = c.self.inside.journal in
    let done = subst (λ (x : Ask). StepsCore c.self.inside.core n x c.in_ok-stepped.stepped c.step.new.self) (c.asked.ensures _) c.in_ok-stepped.ensures.done in
    let logged = (c.add.ensures ∙ (λ i. c.self.inside.log ++ made n (c.of-request.ensures i) (c.entered-reply.ensures.reply i) ∷ [])) in
    let steps = made_steps (length c.self.inside.prefix) σ j c.self.invariant.0 done.0 n a _ done.2 (own_ask (length c.self.inside.prefix) c.args.step) done.1 c.entered-reply.new.journal in
    let old : Running = record { state = σ; journal = j; log = c.self.inside.log } in
    subst (λ (b : Running). StepsFrom b n a c.entered-reply.result c.if-leaves.self) c.self.view_is
    (subst (λ (r : Reply). StepsFrom old n a r c.if-leaves.self) (sym c.entered-reply.ensures.reply)
    (elim c.if-leaves.branch [
      | then-leaves w ↦ subst (λ (x : Running). StepsFrom old n a c.in_ok-stepped.stepped.reply x) (sym w.self-is)
          (steps w.forget.new.self c.entered-reply.ensures.journal true (w.if-leaves.ensures ∙ ap (λ (b : Running). leaves b.state n a) (sym c.self.view_is)) w.forget.ensures c.self.inside.log c.add.new.self logged)
      | else-leaves w ↦ subst (λ (x : Running). StepsFrom old n a c.in_ok-stepped.stepped.reply x) (sym w.self-is)
          (steps c.entered-reply.new.journal c.entered-reply.ensures.journal false (w.if-leaves.ensures ∙ ap (λ (b : Running). leaves b.state n a) (sym c.self.view_is)) refl c.self.inside.log c.add.new.self logged)
    ]))

pub returns-clause-posts : goal.returns-clause-posts
returns-clause-posts g c =
    let n = c.args.session in
    let a = ask_of c.args.step in
    let σ = c.self.inside.core in
    let done = subst (λ (x : Ask). StepsCore c.self.inside.core n x c.in_ok-stepped.stepped c.step.new.self) (c.asked.ensures _) c.in_ok-stepped.ensures.done in
    let posts : KeepsPosts σ c.step.new.self = step_posts (length c.self.inside.prefix) σ c.self.inside.journal c.self.invariant.0 done.0 n a _ done.2 in
    subst (λ (b : Running). KeepsPosts b.state c.if-leaves.self.state) c.self.view_is
    (elim c.if-leaves.branch [
      | then-leaves w ↦ subst (λ (x : Running). KeepsPosts σ x.state) (sym w.self-is) posts
      | else-leaves w ↦ subst (λ (x : Running). KeepsPosts σ x.state) (sym w.self-is) posts
    ])
