use Rattle.std.proofs.Common.{◌≡◌, sym, subst}
use Rattle.std.specs.Prelude.{IfSome}
use Rattle.tab_model.specs.Events.{change_all, surviving_changes}
use Rattle.tab_model.specs.declared.ask.Ask.TheVariants.{Do as DoCommand}
use Rattle.tab_model.specs.declared.data.Command.TheVariants as command
use Rattle.tab_core.specs.Parts.{parts_of, state_with}
use Rattle.tab_core.proofs.OwingLemmas.{ended_commit_makes, put_keeps, delivered_keys}
use Rattle.tab_core.proofs.committing.deliver_commit.Goals as goal

pub commit_to-requires-clause-ends : goal.commit_to-requires-clause-ends
commit_to-requires-clause-ends g c =
    let t = c.requires.ends.transaction in
    let σ = state_with c.args.machine.now in
    (t, record { ends = c.requires.ends.ends; tables = subst (λ o. IfSome o (λ w. w ≡ change_all σ.tables (surviving_changes t.moves t.told))) (sym c.into_tables.ensures) c.requires.ends.updates.tables })

pub returns-clause-done : goal.returns-clause-done
returns-clause-done g c =
    let ν = state_with c.commit_to.new.machine in
    ended_commit_makes (state_with c.args.machine.now) c.args.machine.now.sessions c.args.session c.args.updated c.requires.ends c.in_ok-stepped.stepped ν c.commit_to.new.machine.sessions c.in_ok-stepped.ensures.done
    c.deliver-over.new.self c.deliver-over.result c.in_ok-prepared.prepared c.in_ok-number.number c.deref.result.now c.deref.ensures.value c.in_ok-prepared.ensures c.in_ok-number.ensures c.deliver-over.ensures c.with_overflowed.result c.with_overflowed.ensures

pub returns-clause-kept : goal.returns-clause-kept
returns-clause-kept g c =
    let ν = state_with c.commit_to.new.machine in
    put_keeps (parts_of c.args.machine.now) (parts_of c.commit_to.new.machine) c.deliver-over.new.self c.args.session (DoCommand command.Commit) c.with_overflowed.result
    c.requires.kept c.commit_to.ensures.agree (delivered_keys c.in_ok-prepared.prepared c.commit_to.new.machine.sessions c.deliver-over.new.self c.deliver-over.result c.deliver-over.ensures)
    (ended_commit_makes (state_with c.args.machine.now) c.args.machine.now.sessions c.args.session c.args.updated c.requires.ends c.in_ok-stepped.stepped ν c.commit_to.new.machine.sessions c.in_ok-stepped.ensures.done
    c.deliver-over.new.self c.deliver-over.result c.in_ok-prepared.prepared c.in_ok-number.number c.deref.result.now c.deref.ensures.value c.in_ok-prepared.ensures c.in_ok-number.ensures c.deliver-over.ensures c.with_overflowed.result c.with_overflowed.ensures)
