use Rattle.std.proofs.Common.{refl, ap, ◌∙◌, set, not, rules}
use Rattle.std.specs.Prelude.{◌==◌}
use Rattle.std.specs.List.{filter}
use Rattle.std.proofs.lemmas.Fn.{filter_same}
use Rattle.tab_model.specs.declared.ask.Ask.TheVariants.{Leave}
use Rattle.tab_model.specs.declared.data.Reply.TheVariants as reply
use Rattle.tab_core.specs.declared.queue.Request as request
use Rattle.tab_core.specs.Parts.{parts_of, state_of}
use Rattle.tab_core.specs.Works as works
use Rattle.tab_core.specs.Joined.{Subscriber}
use Rattle.tab_core.proofs.Answering as answering
use Rattle.tab_core.proofs.Keeping.{the_session, parts, with_transaction}
use Rattle.tab_core.proofs.LevelEnds as ending
use Rattle.tab_core.proofs.machine.Machine.leave.Goals as goal

pub returns-in_default-clause-done : goal.returns-in_default-clause-done
returns-in_default-clause-done g c = answering.unseated (parts_of c.args.self.now) c.args.session c.in_default.ensures Leave refl c.without_entry.result c.without_entry.ensures

pub returns : goal.returns
returns g c =
    let m = parts_of c.args.self.now in
    let n = c.args.session in
    let i = c.in-Some.place in
    let there = c.in-Some.ensures in
    let m' = parts m c.leave.new.self c.end_if.new.ages c.retain.new.self in
    let all = ending.leave_exit m n i c.requires.kept there m' refl refl refl refl refl
    (c.leave.ensures ∙ ap (λ o. filter (λ (x : Subscriber). not (x.number == n)) (set m.sessions i (with_transaction (the_session m n i) o))) c.end_if.ensures.slot)
    (filter_same _ (λ (x : request.Request). not (x.session == n)) _ (λ x b f t. search rules) _ _ c.retain.ensures.filtered)
    (c.end_if.ensures.ages ∙ ap (works.forgotten_if m.ages) c.transaction_mut.ensures.value) in
    record { done = all.0 ∙ answering.without_entry (state_of m') reply.Done c.without_entry-2.result c.without_entry-2.ensures; kept = all.1 }
