use Rattle.std.proofs.Common.{sym, ap, ◌∙◌, refl, Some, None}
use Rattle.std.specs.Prelude.{is_some}
use Rattle.tab_model.specs.declared.data.Reply.TheVariants as reply
use Rattle.tab_model.specs.Outcome.{subscribe_refusal}
use Rattle.tab_core.specs.Parts.{parts_of}
use Rattle.tab_core.proofs.MarksLemmas.{seen, unseen, free, copied_is_some, overflow_untold, no_table, subscribed_already, may_subscribe}
use Rattle.tab_core.proofs.MachineSteps.{differ}
use Rattle.tab_core.proofs.TellsLemmas.{subscribe_told}
use Rattle.tab_core.proofs.Core.subscribe_refusal.Goals as goal

pub returns-then-is_some-clause-ok : goal.returns-then-is_some-clause-ok
returns-then-is_some-clause-ok g c =
    let m = parts_of c.self.inside.machine in
    let n = c.args.session in
    let none = unseen m c.args.self.now c.self.view_is n (λ μ s. None) None (free _ _ c.in_default.not-Some c.session_refusal.ensures) in
    seen m c.args.self.now c.self.view_is n (λ μ s. subscribe_refusal μ s c.args.table.now) (Some reply.OverflowUntold)
    (overflow_untold m n c.args.table.now none (c.if-is_some.ensures ∙ ap is_some c.overflow.ensures))

pub returns-then-is_none-clause-ok : goal.returns-then-is_none-clause-ok
returns-then-is_none-clause-ok g c =
    let m = parts_of c.self.inside.machine in
    let n = c.args.session in
    let none = unseen m c.args.self.now c.self.view_is n (λ μ s. None) None (free _ _ c.in_default.not-Some c.session_refusal.ensures) in
    ap (λ t. Some (reply.UnknownTable t)) c.in_ok-try_clone.ensures.ok
    ∙ seen m c.args.self.now c.self.view_is n (λ μ s. subscribe_refusal μ s c.args.table.now) (Some (reply.UnknownTable c.args.table.now))
    (no_table m n c.args.table.now none (c.if-is_some.ensures ∙ ap is_some c.overflow.ensures)
    (sym c.if-is_none.ensures ∙ copied_is_some c.table.result ∙ ap is_some c.table.ensures))

pub returns-then-is_some-2-clause-ok : goal.returns-then-is_some-2-clause-ok
returns-then-is_some-2-clause-ok g c =
    let m = parts_of c.self.inside.machine in
    let n = c.args.session in
    let none = unseen m c.args.self.now c.self.view_is n (λ μ s. None) None (free _ _ c.in_default.not-Some c.session_refusal.ensures) in
    ap (λ t. Some (reply.AlreadySubscribed t)) c.in_ok-try_clone-2.ensures.ok
    ∙ seen m c.args.self.now c.self.view_is n (λ μ s. subscribe_refusal μ s c.args.table.now) (Some (reply.AlreadySubscribed c.args.table.now))
    (subscribed_already m n c.args.table.now none (c.if-is_some.ensures ∙ ap is_some c.overflow.ensures)
    (sym c.if-is_none.ensures ∙ copied_is_some c.table.result ∙ ap is_some c.table.ensures)
    (c.if-is_some-2.ensures ∙ ap is_some c.level.ensures))

pub returns-clause-ok : goal.returns-clause-ok
returns-clause-ok g c =
    let m = parts_of c.self.inside.machine in
    let n = c.args.session in
    let none = unseen m c.args.self.now c.self.view_is n (λ μ s. None) None (free _ _ c.in_default.not-Some c.session_refusal.ensures) in
    seen m c.args.self.now c.self.view_is n (λ μ s. subscribe_refusal μ s c.args.table.now) None
    (may_subscribe m n c.args.table.now none (c.if-is_some.ensures ∙ ap is_some c.overflow.ensures)
    (sym c.if-is_none.ensures ∙ copied_is_some c.table.result ∙ ap is_some c.table.ensures)
    (c.if-is_some-2.ensures ∙ ap is_some c.level.ensures))

pub returns-in_err-try_clone-clause-free : goal.returns-in_err-try_clone-clause-free
returns-in_err-try_clone-clause-free g c l dump h =
    let m = parts_of c.self.inside.machine in
    let n = c.args.session in
    let none = unseen m c.args.self.now c.self.view_is n (λ μ s. None) None (free _ _ c.in_default.not-Some c.session_refusal.ensures) in
    let refused = seen m c.args.self.now c.self.view_is n (λ μ s. subscribe_refusal μ s c.args.table.now) (Some (reply.UnknownTable c.args.table.now))
    (no_table m n c.args.table.now none (c.if-is_some.ensures ∙ ap is_some c.overflow.ensures)
    (sym c.if-is_none.ensures ∙ copied_is_some c.table.result ∙ ap is_some c.table.ensures)) in
    absurd (differ _ h (subscribe_told c.args.self.now n c.args.table.now l dump (Some (reply.UnknownTable c.args.table.now)) refused refl))

pub returns-in_err-try_clone-2-clause-free : goal.returns-in_err-try_clone-2-clause-free
returns-in_err-try_clone-2-clause-free g c l dump h =
    let m = parts_of c.self.inside.machine in
    let n = c.args.session in
    let none = unseen m c.args.self.now c.self.view_is n (λ μ s. None) None (free _ _ c.in_default.not-Some c.session_refusal.ensures) in
    let refused = seen m c.args.self.now c.self.view_is n (λ μ s. subscribe_refusal μ s c.args.table.now) (Some (reply.AlreadySubscribed c.args.table.now))
    (subscribed_already m n c.args.table.now none (c.if-is_some.ensures ∙ ap is_some c.overflow.ensures)
    (sym c.if-is_none.ensures ∙ copied_is_some c.table.result ∙ ap is_some c.table.ensures)
    (c.if-is_some-2.ensures ∙ ap is_some c.level.ensures)) in
    absurd (differ _ h (subscribe_told c.args.self.now n c.args.table.now l dump (Some (reply.AlreadySubscribed c.args.table.now)) refused refl))
