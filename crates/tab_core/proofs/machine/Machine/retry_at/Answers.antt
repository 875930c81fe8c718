use Rattle.std.proofs.Common.{◌≡◌, true, false, refl, sym, ap, ◌∙◌, subst, set, not, rules}
use Rattle.std.specs.Prelude.{◌==◌, IfSome, IsSome}
use Rattle.std.proofs.lemmas.Fn.{filter_same}
use Rattle.tab_model.specs.Ages as plain
use Rattle.tab_model.specs.Outcome.{step_without_entry}
use Rattle.tab_core.specs.declared.queue.Request as request
use Rattle.tab_core.specs.Works as works
use Rattle.tab_core.proofs.Keeping as keep
use Rattle.tab_core.proofs.Keeping.{the_session, parts, with_transaction}
use Rattle.tab_core.proofs.OperatingLemmas as operating
use Rattle.tab_core.proofs.MachineSteps as steps
use Rattle.tab_core.proofs.machine.Machine.retry_at.Goals as goal
use Rattle.tab_core.specs.Parts.{parts_of, state_of}

pub returns-in_default-clause-ok : goal.returns-in_default-clause-ok
returns-in_default-clause-ok g c =
    let m = parts_of c.args.self.now in
    let n = c.args.session in
    let i = c.args.place in
    operating.nothing_queued m n i c.requires.kept c.requires.there (operating.queued_here m n i c.requires.kept c.requires.there _ c.deref.ensures.value c.in_default.ensures)
    ∙ ap (step_without_entry (state_of m)) (sym c.new.ensures)

pub may_go-requires : goal.may_go-requires
may_go-requires g c =
    let m = parts_of c.args.self.now in
    let n = c.args.session in
    let i = c.args.place in
    let rq = operating.queued_here m n i c.requires.kept c.requires.there _ c.deref.ensures.value c.in-Some.ensures in
    let r = operating.requested m n i c.requires.kept c.requires.there c.in-Some.request.now rq in
    subst IsSome (sym r.request) refl

pub returns-then-not-may_go-clause-ok : goal.returns-then-not-may_go-clause-ok
returns-then-not-may_go-clause-ok g c =
    let m = parts_of c.args.self.now in
    let n = c.args.session in
    let i = c.args.place in
    let rq = operating.queued_here m n i c.requires.kept c.requires.there _ c.deref.ensures.value c.in-Some.ensures in
    let r = operating.requested m n i c.requires.kept c.requires.there c.in-Some.request.now rq in
    operating.waits_on m n i c.requires.kept c.requires.there c.in-Some.request.now rq (sym (subst (λ x. IfSome x (λ z. false ≡ plain.can_retry m.ages z)) r.request c.if-not-may_go.ensures))
    ∙ ap (step_without_entry (state_of m)) (sym c.new-then-not-may_go.ensures)

pub grant-requires-clause-queued : goal.grant-requires-clause-queued
grant-requires-clause-queued g c =
    let m = parts_of c.args.self.now in
    let n = c.args.session in
    let i = c.args.place in
    let rq = operating.queued_here m n i c.requires.kept c.requires.there _ c.deref.ensures.value c.in-Some.ensures in
    let r = operating.requested m n i c.requires.kept c.requires.there c.in-Some.request.now rq in
    subst IsSome (sym r.request) refl

pub work-requires : goal.work-requires
work-requires g c =
    let m = parts_of c.args.self.now in
    let n = c.args.session in
    let i = c.args.place in
    let rq = operating.queued_here m n i c.requires.kept c.requires.there _ c.deref.ensures.value c.in-Some.ensures in
    let r = operating.requested m n i c.requires.kept c.requires.there c.in-Some.request.now rq in
    subst IsSome (sym (c.transaction_mut-slot.ensures.value ∙ r.open_t)) refl

pub returns-in_err-worked-clause-err : goal.returns-in_err-worked-clause-err
returns-in_err-worked-clause-err g c =
    let m = parts_of c.args.self.now in
    let n = c.args.session in
    let i = c.args.place in
    let rq = operating.queued_here m n i c.requires.kept c.requires.there _ c.deref.ensures.value c.in-Some.ensures in
    keep.always c.from_residual-in_err-worked.result (operating.retry_refused m n i c.requires.kept c.requires.there c.in-Some.request.now rq c.transaction_mut-slot.result.now c.work.new.slot c.grant.new.self c.work.new.ages
    (parts m (set m.sessions i (with_transaction (the_session m n i) c.work.new.slot)) c.work.new.ages m.queue) c.transaction_mut-slot.ensures.value c.in_err-worked.ensures.undone c.in_ok-grant.ensures.undo c.in_ok-grant.ensures.ok
    (record { catalog = refl; sessions = refl; queue = refl; limits = refl; begun = refl; commits = refl; greatest = refl }) refl).0

pub returns-in_err-worked-clause-kept : goal.returns-in_err-worked-clause-kept
returns-in_err-worked-clause-kept g c =
    let m = parts_of c.args.self.now in
    let n = c.args.session in
    let i = c.args.place in
    let rq = operating.queued_here m n i c.requires.kept c.requires.there _ c.deref.ensures.value c.in-Some.ensures in
    (operating.retry_refused m n i c.requires.kept c.requires.there c.in-Some.request.now rq c.transaction_mut-slot.result.now c.work.new.slot c.grant.new.self c.work.new.ages
    (parts m (set m.sessions i (with_transaction (the_session m n i) c.work.new.slot)) c.work.new.ages m.queue) c.transaction_mut-slot.ensures.value c.in_err-worked.ensures.undone c.in_ok-grant.ensures.undo c.in_ok-grant.ensures.ok
    (record { catalog = refl; sessions = refl; queue = refl; limits = refl; begun = refl; commits = refl; greatest = refl }) refl).1

pub returns : goal.returns
returns g c =
    let m = parts_of c.args.self.now in
    let n = c.args.session in
    let i = c.args.place in
    let rq = operating.queued_here m n i c.requires.kept c.requires.there _ c.deref.ensures.value c.in-Some.ensures in
    let r = operating.requested m n i c.requires.kept c.requires.there c.in-Some.request.now rq in
    let before = c.in_ok-worked.ensures.held ∙ operating.granted_as m n i c.requires.kept c.requires.there c.in-Some.request.now rq c.grant.new.self c.in_ok-grant.ensures.ok in
    let all = operating.retry_exit m n i c.requires.kept c.requires.there c.in-Some.request.now rq c.in_ok-worked.worked c.transaction_mut-slot.result.now c.work.new.slot c.end_if.new.slot c.drop_wait.new.self c.end_if.new.ages
    (parts m (set m.sessions i (with_transaction (the_session m n i) c.end_if.new.slot)) c.end_if.new.ages c.retain.new.self)
    (record { same = c.transaction_mut-slot.ensures.value; works = subst (λ o. IfSome c.transaction_mut-slot.result.now (λ u. works.WorksTo m.catalog u o c.in_ok-worked.worked c.work.new.slot)) c.in_ok-try_clone.ensures c.in_ok-worked.ensures.ok; end = c.end_if.ensures.slot })
    (sym (subst (λ x. IfSome x (λ z. true ≡ plain.can_retry m.ages z)) r.request c.if-not-may_go.ensures))
    (c.drop_wait.ensures ∙ (λ j. let g : plain.Ages = record { held = plain.Ages.held (before j); queue = plain.without c.in-Some.request.now.age (plain.Ages.queue (before j)) } in g)) c.end_if.ensures.ages
    (record { catalog = refl; sessions = refl; queue = filter_same _ (λ (x : request.Request). not (x.session == n)) _ (λ x b f t. search rules) _ _ c.retain.ensures.filtered; limits = refl; begun = refl; commits = refl; greatest = refl }) refl in
    record { ok = all.0 ∙ ap (step_without_entry (state_of (parts m (set m.sessions i (with_transaction (the_session m n i) c.end_if.new.slot)) c.end_if.new.ages c.retain.new.self))) (sym c.into_reply.ensures); free = λ h. refl; told = λ h. refl; err = tt; kept = all.1 }

pub returns-in_err-try_clone-clause-told : goal.returns-in_err-try_clone-clause-told
returns-in_err-try_clone-clause-told g c =
    let m = parts_of c.args.self.now in
    let n = c.args.session in
    let i = c.args.place in
    let rq = operating.queued_here m n i c.requires.kept c.requires.there _ c.deref.ensures.value c.in-Some.ensures in
    let r = operating.requested m n i c.requires.kept c.requires.there c.in-Some.request.now rq in
    let may = sym (subst (λ x. IfSome x (λ z. true ≡ plain.can_retry m.ages z)) r.request c.if-not-may_go.ensures) in
    λ h. absurd (steps.differ _ h (steps.retry_told m n i c.requires.kept c.requires.there c.in-Some.request.now rq may))

pub returns-in_err-grant-clause-told : goal.returns-in_err-grant-clause-told
returns-in_err-grant-clause-told g c =
    let m = parts_of c.args.self.now in
    let n = c.args.session in
    let i = c.args.place in
    let rq = operating.queued_here m n i c.requires.kept c.requires.there _ c.deref.ensures.value c.in-Some.ensures in
    let r = operating.requested m n i c.requires.kept c.requires.there c.in-Some.request.now rq in
    let may = sym (subst (λ x. IfSome x (λ z. true ≡ plain.can_retry m.ages z)) r.request c.if-not-may_go.ensures) in
    λ h. absurd (steps.differ _ h (steps.retry_told m n i c.requires.kept c.requires.there c.in-Some.request.now rq may))

pub returns-in_err-worked-clause-told : goal.returns-in_err-worked-clause-told
returns-in_err-worked-clause-told g c =
    let m = parts_of c.args.self.now in
    let n = c.args.session in
    let i = c.args.place in
    let rq = operating.queued_here m n i c.requires.kept c.requires.there _ c.deref.ensures.value c.in-Some.ensures in
    let r = operating.requested m n i c.requires.kept c.requires.there c.in-Some.request.now rq in
    let may = sym (subst (λ x. IfSome x (λ z. true ≡ plain.can_retry m.ages z)) r.request c.if-not-may_go.ensures) in
    λ h. absurd (steps.differ _ h (steps.retry_told m n i c.requires.kept c.requires.there c.in-Some.request.now rq may))
