use Rattle.std.proofs.Common.{sym, ◌∙◌, None}
use Rattle.tab_model.specs.declared.data.Command.TheVariants as command
use Rattle.tab_model.specs.declared.ask.Ask.TheVariants.{Do as DoCommand}
use Rattle.tab_model.specs.Slices.{dump_of}
use Rattle.tab_core.specs.Parts.{parts_of, state_of, state_with}
use Rattle.tab_core.proofs.Answering.{not_refused}
use Rattle.tab_core.proofs.MachineSteps.{differ}
use Rattle.tab_core.proofs.MarksLemmas.{free, subscription_refused, subscription_made, began_with}
use Rattle.tab_core.proofs.StepsLemmas.{sees, put_kept}
use Rattle.tab_core.proofs.TellsLemmas.{subscribe_told}
use Rattle.tab_core.proofs.Core.subscribe.Goals as goal

pub returns-in-Some-clause-done : goal.returns-in-Some-clause-done
returns-in-Some-clause-done g c =
    subscription_refused (parts_of c.self.inside.machine) c.args.self.now c.self.view_is c.args.session c.args.table c.args.level c.args.dump
    c.in-Some.refusal (sym c.in-Some.is ∙ c.in_ok-refusal.ensures.ok) c.without_entry.result c.without_entry.ensures

pub invariant_of-self-2 : goal.invariant_of-self-2
invariant_of-self-2 g c =
    let m = parts_of c.self.inside.machine in
    let cs = c.subscribe.new.self in
    let marked = began_with m.sessions cs c.args.session c.args.table c.args.level c.in_ok-named.named c.in_ok-records.records (dump_of m.catalog c.args.table c.args.dump) c.in_ok-marked.marked c.in_ok-named.ensures.ok c.in_ok-records.ensures c.in_ok-marked.ensures.ok in
    let made = subscription_made m c.args.self.now c.self.view_is c.args.session c.args.table c.args.level c.args.dump
    (free _ _ c.in_default.not-Some c.in_ok-refusal.ensures.ok) c.in_ok-marked.marked cs marked c.marked_reply.result c.marked_reply.ensures in
    put_kept m cs c.args.session (DoCommand (command.Subscribe c.args.table c.args.level c.args.dump)) c.marked_reply.result c.self.invariant made.0 made.1

pub returns-clause-done : goal.returns-clause-done
returns-clause-done g c =
    let m = parts_of c.self.inside.machine in
    let cs = c.subscribe.new.self in
    let marked = began_with m.sessions cs c.args.session c.args.table c.args.level c.in_ok-named.named c.in_ok-records.records (dump_of m.catalog c.args.table c.args.dump) c.in_ok-marked.marked c.in_ok-named.ensures.ok c.in_ok-records.ensures c.in_ok-marked.ensures.ok in
    let made = subscription_made m c.args.self.now c.self.view_is c.args.session c.args.table c.args.level c.args.dump
    (free _ _ c.in_default.not-Some c.in_ok-refusal.ensures.ok) c.in_ok-marked.marked cs marked c.marked_reply.result c.marked_reply.ensures in
    sees (state_with c.self.inside.machine) (state_of (record m { sessions = cs })) c.args.self.now c.args.session
    (DoCommand (command.Subscribe c.args.table c.args.level c.args.dump)) c.marked_reply.result c.self.view_is made.0

pub returns-in_err-refusal-clause-free : goal.returns-in_err-refusal-clause-free
returns-in_err-refusal-clause-free g c h = absurd (not_refused _ _ c.in_err-refusal.was (c.subscribe_refusal.ensures.free c.args.level c.args.dump h))

pub returns-in_err-records-clause-free : goal.returns-in_err-records-clause-free
returns-in_err-records-clause-free g c h = absurd (differ _ h (subscribe_told c.args.self.now c.args.session c.args.table c.args.level c.args.dump None (free _ _ c.in_default.not-Some c.in_ok-refusal.ensures.ok) tt))

pub returns-in_err-named-clause-free : goal.returns-in_err-named-clause-free
returns-in_err-named-clause-free g c h = absurd (differ _ h (subscribe_told c.args.self.now c.args.session c.args.table c.args.level c.args.dump None (free _ _ c.in_default.not-Some c.in_ok-refusal.ensures.ok) tt))

pub returns-in_err-marked-clause-free : goal.returns-in_err-marked-clause-free
returns-in_err-marked-clause-free g c h = absurd (differ _ h (subscribe_told c.args.self.now c.args.session c.args.table c.args.level c.args.dump None (free _ _ c.in_default.not-Some c.in_ok-refusal.ensures.ok) tt))
