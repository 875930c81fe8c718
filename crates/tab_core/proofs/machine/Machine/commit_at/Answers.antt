use Rattle.std.proofs.Common.{◌+◌, refl, sym, ap, ◌∙◌, arith, subst, set}
use Rattle.tab_model.specs.declared.data.Reply.TheVariants as reply
use Rattle.tab_core.specs.Outermost.{CommitsBy}
use Rattle.tab_core.specs.Parts.{parts_of, state_of}
use Rattle.tab_core.specs.Works as works
use Rattle.tab_core.proofs.Keeping.{the_session, parts, with_transaction}
use Rattle.tab_core.proofs.LevelEnds as ending
use Rattle.tab_core.proofs.Answering as answering
use Rattle.tab_core.proofs.OutermostLemmas as lemmas
use Rattle.tab_core.proofs.MachineSteps as steps
use Rattle.tab_core.proofs.machine.Machine.commit_at.Goals as goal

pub returns-in_default-clause-done : goal.returns-in_default-clause-done
returns-in_default-clause-done g c =
    let m = parts_of c.args.self.now in
    let n = c.args.session in
    let i = c.args.place in
    let closed = sym c.transaction.ensures ∙ c.in_default.is in
    subst (CommitsBy (state_of m) n c.without_entry.result (state_of m)) (sym (lemmas.no_transaction_none m n i c.requires.kept c.requires.there closed))
    (ending.commits_nothing m n i c.requires.kept c.requires.there closed c.requires.idle ∙ answering.without_entry (state_of m) reply.NoTransaction c.without_entry.result c.without_entry.ensures)

pub returns-then-depth-gt0 : goal.returns-then-depth-gt0
returns-then-depth-gt0 g c =
    let m = parts_of c.args.self.now in
    let n = c.args.session in
    let i = c.args.place in
    let t = c.in-Some.transaction in
    let open_t = sym c.transaction.ensures ∙ c.in-Some.is in
    let deep = answering.above_zero _ (omega (arith, c.if-depth-gt0.true, c.depth.ensures)) in
    let m' = parts m (set m.sessions i (with_transaction (the_session m n i) c.join_level.new.slot)) m.ages m.queue in
    let all = ending.join_exit m n i c.requires.kept c.requires.there t open_t c.join_level.new.slot m' c.requires.idle deep (c.join_level.ensures ∙ ap works.joined c.transaction_mut.ensures.value)
    (record { catalog = refl; sessions = refl; queue = refl; limits = refl; begun = refl; commits = refl; greatest = refl }) refl in
    record {
      done = subst (CommitsBy (state_of m) n c.without_entry-then-depth-gt0.result (state_of m')) (sym (lemmas.child_none m n i c.requires.kept c.requires.there t open_t deep))
          (all.0 ∙ answering.without_entry (state_of m') reply.AtomicOk c.without_entry-then-depth-gt0.result c.without_entry-then-depth-gt0.ensures);
      free = λ h. refl;
      told = λ h. refl;
      err = tt;
      agree = all.1.agree;
    }

pub returns-in_err-commit_to-clause-free : goal.returns-in_err-commit_to-clause-free
returns-in_err-commit_to-clause-free g c =
    let m = parts_of c.args.self.now in
    let n = c.args.session in
    let i = c.args.place in
    let t = c.in-Some.transaction in
    let open_t = sym c.transaction.ensures ∙ c.in-Some.is in
    λ empty. absurd (answering.not_refused _ _ c.in_err-commit_to.was (c.commit_to.ensures.free (answering.no_updates m n i c.requires.kept c.requires.there t open_t empty)))

pub overflow_add-self : goal.overflow_add-self
overflow_add-self g c =
    let m = parts_of c.args.self.now in
    let n = c.args.session in
    let i = c.args.place in
    let t = c.in-Some.transaction in
    let open_t = sym c.transaction.ensures ∙ c.in-Some.is in
    let small = answering.commits_fit m n i c.requires.kept c.requires.there t open_t in
    omega (arith, small)

pub returns : goal.returns
returns g c =
    let m = parts_of c.args.self.now in
    let n = c.args.session in
    let i = c.args.place in
    let t = c.in-Some.transaction in
    let open_t = sym c.transaction.ensures ∙ c.in-Some.is in
    let flat = answering.zero_is _ (omega (arith, c.if-depth-gt0.false, c.depth.ensures)) in
    let m' = record m { catalog = c.commit_to.new.catalog; sessions = set m.sessions i (with_transaction (the_session m n i) c.finish-finished.new.slot); ages = c.finish-finished.new.ages; commits = m.commits + 1 } in
    let all = answering.commit_exit m n i c.requires.kept c.requires.there t open_t c.requires.idle c.transaction_mut-2.result.now c.finish-finished.new.slot c.finish-finished.result m' c.transaction_mut-2.ensures.value
    c.finish-finished.ensures.over c.finish-finished.ensures.told c.in_ok-commit_to.ensures.ok refl refl refl refl refl refl c.finish-finished.ensures.ages in
    record {
      done = subst (CommitsBy (state_of m) n c.finish-finished.result (state_of m')) (sym (lemmas.ends_level_1 m n i c.requires.kept c.requires.there t open_t c.requires.idle flat)) all.0;
      free = λ h. refl;
      told = λ h. refl;
      err = tt;
      agree = all.1;
    }

pub returns-in_err-commit_to-clause-told : goal.returns-in_err-commit_to-clause-told
returns-in_err-commit_to-clause-told g c =
    let m = parts_of c.args.self.now in
    let n = c.args.session in
    let i = c.args.place in
    let t = c.in-Some.transaction in
    let open_t = sym c.transaction.ensures ∙ c.in-Some.is in
    λ h. absurd (steps.differ _ h (steps.commit_told m n i c.requires.kept c.requires.there t open_t c.requires.idle (answering.zero_is _ (omega (arith, c.if-depth-gt0.false, c.depth.ensures)))))
