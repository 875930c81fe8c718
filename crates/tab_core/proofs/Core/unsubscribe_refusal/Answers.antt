use Rattle.std.proofs.Common.{refl, ap, ◌∙◌, Some, None}
use Rattle.tab_model.specs.declared.data.Reply.TheVariants as reply
use Rattle.tab_model.specs.Outcome.{is_at, unsubscribe_refusal}
use Rattle.tab_core.specs.Parts.{parts_of}
use Rattle.tab_core.proofs.MarksLemmas.{seen, unseen, free, may_unsubscribe, not_subscribed}
use Rattle.tab_core.proofs.MachineSteps.{differ}
use Rattle.tab_core.proofs.TellsLemmas.{unsubscribe_told}
use Rattle.tab_core.proofs.Core.unsubscribe_refusal.Goals as goal

pub returns-then-is_at-clause-ok : goal.returns-then-is_at-clause-ok
returns-then-is_at-clause-ok g c =
    let m = parts_of c.self.inside.machine in
    let n = c.args.session in
    let none = unseen m c.args.self.now c.self.view_is n (λ μ s. None) None (free _ _ c.in_default.not-Some c.session_refusal.ensures) in
    seen m c.args.self.now c.self.view_is n (λ μ. unsubscribe_refusal c.args.table.now c.args.level) None
    (may_unsubscribe m n c.args.table.now none c.args.level (c.if-is_at.ensures ∙ ap (λ o. is_at o c.args.level) c.level.ensures))

pub returns-clause-ok : goal.returns-clause-ok
returns-clause-ok g c =
    let m = parts_of c.self.inside.machine in
    let n = c.args.session in
    let none = unseen m c.args.self.now c.self.view_is n (λ μ s. None) None (free _ _ c.in_default.not-Some c.session_refusal.ensures) in
    ap (λ t. Some (reply.NotSubscribed t)) c.in_ok-try_clone.ensures.ok
    ∙ seen m c.args.self.now c.self.view_is n (λ μ. unsubscribe_refusal c.args.table.now c.args.level) (Some (reply.NotSubscribed c.args.table.now))
    (not_subscribed m n c.args.table.now none c.args.level (c.if-is_at.ensures ∙ ap (λ o. is_at o c.args.level) c.level.ensures))

pub returns-in_err-try_clone-clause-free : goal.returns-in_err-try_clone-clause-free
returns-in_err-try_clone-clause-free g c h =
    let m = parts_of c.self.inside.machine in
    let n = c.args.session in
    let none = unseen m c.args.self.now c.self.view_is n (λ μ s. None) None (free _ _ c.in_default.not-Some c.session_refusal.ensures) in
    let refused = seen m c.args.self.now c.self.view_is n (λ μ. unsubscribe_refusal c.args.table.now c.args.level) (Some (reply.NotSubscribed c.args.table.now))
    (not_subscribed m n c.args.table.now none c.args.level (c.if-is_at.ensures ∙ ap (λ o. is_at o c.args.level) c.level.ensures)) in
    absurd (differ _ h (unsubscribe_told c.args.self.now n c.args.table.now c.args.level (Some (reply.NotSubscribed c.args.table.now)) refused refl))
