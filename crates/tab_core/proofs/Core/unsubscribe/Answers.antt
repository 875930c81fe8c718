use Rattle.std.proofs.Common.{sym, ◌∙◌, None}
use Rattle.tab_model.specs.declared.data.Command.TheVariants as command
use Rattle.tab_model.specs.declared.ask.Ask.TheVariants.{Do as DoCommand}
use Rattle.tab_core.specs.Parts.{parts_of, state_of, state_with}
use Rattle.tab_core.proofs.Answering.{not_refused}
use Rattle.tab_core.proofs.MachineSteps.{differ}
use Rattle.tab_core.proofs.MarksLemmas.{free, end_refused, end_made}
use Rattle.tab_core.proofs.StepsLemmas.{sees, put_kept}
use Rattle.tab_core.proofs.TellsLemmas.{unsubscribe_told}
use Rattle.tab_core.proofs.Core.unsubscribe.Goals as goal

pub returns-in-Some-clause-done : goal.returns-in-Some-clause-done
returns-in-Some-clause-done g c =
    end_refused (parts_of c.self.inside.machine) c.args.self.now c.self.view_is c.args.session c.args.table c.args.level
    c.in-Some.refusal (sym c.in-Some.is ∙ c.in_ok-refusal.ensures.ok) c.without_entry.result c.without_entry.ensures

pub invariant_of-self-2 : goal.invariant_of-self-2
invariant_of-self-2 g c =
    let m = parts_of c.self.inside.machine in
    let cs = c.unsubscribe.new.self in
    let made = end_made m c.args.self.now c.self.view_is c.args.session c.args.table c.args.level
    (free _ _ c.in_default.not-Some c.in_ok-refusal.ensures.ok) c.in_ok-marked.marked cs c.in_ok-marked.ensures.ok c.marked_reply.result c.marked_reply.ensures in
    put_kept m cs c.args.session (DoCommand (command.Unsubscribe c.args.table c.args.level)) c.marked_reply.result c.self.invariant made.0 made.1

pub returns-clause-done : goal.returns-clause-done
returns-clause-done g c =
    let m = parts_of c.self.inside.machine in
    let cs = c.unsubscribe.new.self in
    let made = end_made m c.args.self.now c.self.view_is c.args.session c.args.table c.args.level
    (free _ _ c.in_default.not-Some c.in_ok-refusal.ensures.ok) c.in_ok-marked.marked cs c.in_ok-marked.ensures.ok c.marked_reply.result c.marked_reply.ensures in
    sees (state_with c.self.inside.machine) (state_of (record m { sessions = cs })) c.args.self.now c.args.session
    (DoCommand (command.Unsubscribe c.args.table c.args.level)) c.marked_reply.result c.self.view_is made.0

pub returns-in_err-refusal-clause-free : goal.returns-in_err-refusal-clause-free
returns-in_err-refusal-clause-free g c h = absurd (not_refused _ _ c.in_err-refusal.was (c.unsubscribe_refusal.ensures.free h))

pub returns-in_err-marked-clause-free : goal.returns-in_err-marked-clause-free
returns-in_err-marked-clause-free g c h = absurd (differ _ h (unsubscribe_told c.args.self.now c.args.session c.args.table c.args.level None (free _ _ c.in_default.not-Some c.in_ok-refusal.ensures.ok) tt))
