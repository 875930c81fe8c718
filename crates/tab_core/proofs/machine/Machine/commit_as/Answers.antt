use Rattle.std.proofs.Common.{◌+◌, refl, ◌∙◌, arith, subst, set}
use Rattle.tab_model.specs.State.{Transaction}
use Rattle.tab_core.specs.Outermost.{Commits}
use Rattle.tab_core.specs.Parts.{parts_of, state_of}
use Rattle.tab_core.proofs.Keeping.{the_session, with_transaction}
use Rattle.tab_core.proofs.Answering as answering
use Rattle.tab_core.proofs.OutermostLemmas as lemmas
use Rattle.tab_core.proofs.machine.Machine.commit_as.Goals as goal

pub unreachable-requires : goal.unreachable-requires
unreachable-requires g c =
    let m = parts_of c.args.self.now in
    let there = c.requires.there in
    lemmas.not_none (state_of m) c.args.session there.0 (lemmas.stranger_none m c.args.session c.in_default.ensures) there.1

pub overflow_add-self : goal.overflow_add-self
overflow_add-self g c =
    let m = parts_of c.args.self.now in
    let n = c.args.session in
    let i = c.in-Some.place in
    let e = lemmas.is_ending m n i c.requires.kept c.in-Some.ensures c.requires.there.0 c.requires.there.1 in
    let small = answering.commits_fit m n i c.requires.kept c.in-Some.ensures e.held e.opened in
    omega (arith, small)

pub finish-requires : goal.finish-requires
finish-requires g c =
    let m = parts_of c.args.self.now in
    let n = c.args.session in
    let i = c.in-Some.place in
    let e = lemmas.is_ending m n i c.requires.kept c.in-Some.ensures c.requires.there.0 c.requires.there.1 in
    lemmas.is_open _ e.held (c.transaction_mut.ensures.value ∙ e.opened)

pub returns : goal.returns
returns g c =
    let m = parts_of c.args.self.now in
    let n = c.args.session in
    let i = c.in-Some.place in
    let there = c.in-Some.ensures in
    let e = lemmas.is_ending m n i c.requires.kept there c.requires.there.0 c.requires.there.1 in
    let m' = record m { catalog = c.args.catalog; sessions = set m.sessions i (with_transaction (the_session m n i) c.finish.new.slot); ages = c.finish.new.ages; commits = m.commits + 1 } in
    let all = answering.commit_exit m n i c.requires.kept there e.held e.opened e.idle c.transaction_mut.result.now c.finish.new.slot c.finish.result m' c.transaction_mut.ensures.value
    c.finish.ensures.over c.finish.ensures.told (c.requires.there.2 ∙ lemmas.updates_are m n i c.requires.kept there c.requires.there.0 e) refl refl refl refl refl refl c.finish.ensures.ages in
    record {
      done = λ t h. subst (λ (u : Transaction). Commits (state_of m) n u c.finish.result (state_of m')) (e.is ∙ lemmas.same_ending (state_of m) n _ t c.requires.there.1 h) all.0;
      agree = all.1;
    }
