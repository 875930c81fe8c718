use Rattle.std.proofs.Common.{◌++◌, ◌∷◌, [], refl, sym, ap, ◌∙◌, arith, set}
use Rattle.tab_model.specs.Outcome.{step_without_entry}
use Rattle.tab_waitdie.specs.declared.ages.LockDecision.TheVariants.{Granted, Wait, Die}
use Rattle.tab_core.specs.declared.queue.Request as request
use Rattle.tab_core.proofs.Keeping as keep
use Rattle.tab_core.proofs.Keeping.{parts, the_session, with_transaction}
use Rattle.tab_core.specs.Works as works
use Rattle.tab_core.proofs.OperatingLemmas as operating
use Rattle.tab_core.proofs.Numbers.{less, not_less}
use Rattle.tab_core.proofs.MachineSteps as steps
use Rattle.tab_core.proofs.machine.Machine.operate.Goals as goal
use Rattle.tab_core.specs.Parts.{parts_of, state_of}

pub returns-in_default-clause-ok : goal.returns-in_default-clause-ok
returns-in_default-clause-ok g c =
    let m = parts_of c.args.self.now in
    let n = c.args.session in
    let i = c.args.place in
    operating.no_transaction m n i c.requires.kept c.requires.there c.args.asked.value c.requires.idle (sym c.transaction.ensures ∙ c.in_default.is)
    ∙ ap (step_without_entry (state_of m)) (sym c.new.ensures)

pub returns-then-count-self-clause-ok : goal.returns-then-count-self-clause-ok
returns-then-count-self-clause-ok g c =
    let m = parts_of c.args.self.now in
    let n = c.args.session in
    let i = c.args.place in
    operating.too_many m n i c.requires.kept c.requires.there c.in-Some.transaction (sym c.transaction.ensures ∙ c.in-Some.is) c.args.asked.value c.requires.idle
    (not_less _ _ (omega (arith, c.if-count-self.true, c.count.ensures)))
    ∙ ap (step_without_entry (state_of m)) (sym c.new-then-count-self.ensures)

pub request-requires : goal.request-requires
request-requires g c =
    let m = parts_of c.args.self.now in
    let n = c.args.session in
    let i = c.args.place in
    keep.not_requested m n i c.requires.kept c.requires.there c.in-Some.transaction (sym c.transaction.ensures ∙ c.in-Some.is) c.requires.idle

pub returns-in_err-worked-in-Granted-clause-kept :
    goal.returns-in_err-worked-in-Granted-clause-kept
returns-in_err-worked-in-Granted-clause-kept g c =
    let m = parts_of c.args.self.now in
    let n = c.args.session in
    let i = c.args.place in
    let t = c.in-Some.transaction in
    let open_t = sym c.transaction.ensures ∙ c.in-Some.is in
    let u = operating.undone t c.transaction_mut-slot.result.now c.work.new.slot c.request.new.self c.work.new.ages (c.transaction_mut-slot.ensures.value ∙ open_t) c.in_err-worked-in-Granted.ensures.undone in
    (operating.refused_exit m n i c.requires.kept c.requires.there t open_t c.work.new.slot (parts m (set m.sessions i (with_transaction (the_session m n i) c.work.new.slot)) c.work.new.ages c.reserve.new.self) (u.0 ∙ c.transaction_mut-slot.ensures.value)
    (record { catalog = refl; sessions = refl; queue = c.in_ok-reserve.ensures.items; limits = refl; begun = refl; commits = refl; greatest = refl })
    (u.1 ∙ operating.given_back m.ages c.request.new.self t.age _ (c.in_ok-request.ensures.undo c.in-Granted.is) (operating.ages_after m.ages c.request.new.self t.age _ c.args.asked.value c.in_ok-request.field-0 Granted c.in_ok-request.ensures.after c.in-Granted.is c.in_ok-lock.ensures))).1

pub returns-in_ok-worked-in-Granted : goal.returns-in_ok-worked-in-Granted
returns-in_ok-worked-in-Granted g c =
    let m = parts_of c.args.self.now in
    let n = c.args.session in
    let i = c.args.place in
    let t = c.in-Some.transaction in
    let open_t = sym c.transaction.ensures ∙ c.in-Some.is in
    let o = c.args.asked.value in
    let lock = c.in_ok-lock.ensures in
    let room = less _ _ (omega (arith, c.if-count-self.false, c.count.ensures)) in
    let all = operating.granted_exit m n i c.requires.kept c.requires.there t open_t o c.in_ok-worked-in-Granted.worked c.transaction_mut-slot.result.now c.work.new.slot c.end_if.new.slot c.work.new.ages c.end_if.new.ages (parts m (set m.sessions i (with_transaction (the_session m n i) c.end_if.new.slot)) c.end_if.new.ages c.reserve.new.self)
    (record { same = c.transaction_mut-slot.ensures.value; works = c.in_ok-worked-in-Granted.ensures.ok; end = c.end_if.ensures.slot })
    c.requires.idle room (operating.decides_as m.ages t.age _ o c.in_ok-request.field-0 Granted c.in_ok-request.ensures.answer c.in-Granted.is lock)
    (c.in_ok-worked-in-Granted.ensures.held ∙ operating.ages_after m.ages c.request.new.self t.age _ o c.in_ok-request.field-0 Granted c.in_ok-request.ensures.after c.in-Granted.is lock) c.end_if.ensures.ages
    (record { catalog = refl; sessions = refl; queue = c.in_ok-reserve.ensures.items; limits = refl; begun = refl; commits = refl; greatest = refl }) refl in
    record { ok = all.0 ∙ ap (step_without_entry (state_of (parts m (set m.sessions i (with_transaction (the_session m n i) c.end_if.new.slot)) c.end_if.new.ages c.reserve.new.self))) (sym c.into_reply.ensures); told = λ h. refl; err = tt; kept = all.1 }

pub returns-in-Wait : goal.returns-in-Wait
returns-in-Wait g c =
    let m = parts_of c.args.self.now in
    let n = c.args.session in
    let i = c.args.place in
    let t = c.in-Some.transaction in
    let open_t = sym c.transaction.ensures ∙ c.in-Some.is in
    let o = c.args.asked.value in
    let lock = c.in_ok-lock.ensures in
    let room = less _ _ (omega (arith, c.if-count-self.false, c.count.ensures)) in
    let q : request.Request = record { session = n; age = t.age; operation = c.into_value.result } in
    let all = operating.wait_exit m n i c.requires.kept c.requires.there t open_t o q (parts m m.sessions c.request.new.self c.push_reserved.new.self)
    (ap (λ x. let y : request.Request = record { session = n; age = t.age; operation = x } in y) c.into_value.ensures) c.requires.idle room
    (operating.decides_as m.ages t.age _ o c.in_ok-request.field-0 Wait c.in_ok-request.ensures.answer c.in-Wait.is lock)
    (operating.ages_after m.ages c.request.new.self t.age _ o c.in_ok-request.field-0 Wait c.in_ok-request.ensures.after c.in-Wait.is lock)
    (record { catalog = refl; sessions = refl; queue = c.push_reserved.ensures.items ∙ ap (λ qs. qs ++ q ∷ []) c.in_ok-reserve.ensures.items; limits = refl; begun = refl; commits = refl; greatest = refl }) in
    record { ok = all.0 ∙ ap (step_without_entry (state_of (parts m m.sessions c.request.new.self c.push_reserved.new.self))) (sym c.new-in-Wait.ensures); told = λ h. refl; err = tt; kept = all.1 }

pub returns-in-Die : goal.returns-in-Die
returns-in-Die g c =
    let m = parts_of c.args.self.now in
    let n = c.args.session in
    let i = c.args.place in
    let t = c.in-Some.transaction in
    let open_t = sym c.transaction.ensures ∙ c.in-Some.is in
    let o = c.args.asked.value in
    let lock = c.in_ok-lock.ensures in
    let room = less _ _ (omega (arith, c.if-count-self.false, c.count.ensures)) in
    let all = operating.die_exit m n i c.requires.kept c.requires.there t open_t o c.restart.new.slot (parts m (set m.sessions i (with_transaction (the_session m n i) c.restart.new.slot)) c.restart.new.ages c.reserve.new.self) (c.restart.ensures.slot ∙ ap works.restarted c.transaction_mut.ensures.value) c.requires.idle room
    (operating.decides_as m.ages t.age _ o c.in_ok-request.field-0 Die c.in_ok-request.ensures.answer c.in-Die.is lock)
    (operating.ages_after m.ages c.request.new.self t.age _ o c.in_ok-request.field-0 Die c.in_ok-request.ensures.after c.in-Die.is lock) (c.restart.ensures.ages ∙ ap (works.forgotten_if c.request.new.self) c.transaction_mut.ensures.value)
    (record { catalog = refl; sessions = refl; queue = c.in_ok-reserve.ensures.items; limits = refl; begun = refl; commits = refl; greatest = refl }) in
    record { ok = all.0 ∙ ap (step_without_entry (state_of (parts m (set m.sessions i (with_transaction (the_session m n i) c.restart.new.slot)) c.restart.new.ages c.reserve.new.self))) (sym c.new-in-Die.ensures); told = λ h. refl; err = tt; kept = all.1 }

pub returns-in_err-reserve-clause-told : goal.returns-in_err-reserve-clause-told
returns-in_err-reserve-clause-told g c =
    let m = parts_of c.args.self.now in
    let n = c.args.session in
    let i = c.args.place in
    let t = c.in-Some.transaction in
    let open_t = sym c.transaction.ensures ∙ c.in-Some.is in
    let room = less _ _ (omega (arith, c.if-count-self.false, c.count.ensures)) in
    λ h. absurd (steps.differ _ h (steps.operation_told m n i c.requires.kept c.requires.there t open_t c.args.asked.value c.requires.idle room))

pub returns-in_err-lock-clause-told : goal.returns-in_err-lock-clause-told
returns-in_err-lock-clause-told g c =
    let m = parts_of c.args.self.now in
    let n = c.args.session in
    let i = c.args.place in
    let t = c.in-Some.transaction in
    let open_t = sym c.transaction.ensures ∙ c.in-Some.is in
    let room = less _ _ (omega (arith, c.if-count-self.false, c.count.ensures)) in
    λ h. absurd (steps.differ _ h (steps.operation_told m n i c.requires.kept c.requires.there t open_t c.args.asked.value c.requires.idle room))

pub returns-in_err-request-clause-told : goal.returns-in_err-request-clause-told
returns-in_err-request-clause-told g c =
    let m = parts_of c.args.self.now in
    let n = c.args.session in
    let i = c.args.place in
    let t = c.in-Some.transaction in
    let open_t = sym c.transaction.ensures ∙ c.in-Some.is in
    let room = less _ _ (omega (arith, c.if-count-self.false, c.count.ensures)) in
    λ h. absurd (steps.differ _ h (steps.operation_told m n i c.requires.kept c.requires.there t open_t c.args.asked.value c.requires.idle room))

pub returns-in_err-worked-in-Granted-clause-told : goal.returns-in_err-worked-in-Granted-clause-told
returns-in_err-worked-in-Granted-clause-told g c =
    let m = parts_of c.args.self.now in
    let n = c.args.session in
    let i = c.args.place in
    let t = c.in-Some.transaction in
    let open_t = sym c.transaction.ensures ∙ c.in-Some.is in
    let room = less _ _ (omega (arith, c.if-count-self.false, c.count.ensures)) in
    λ h. absurd (steps.differ _ h (steps.operation_told m n i c.requires.kept c.requires.there t open_t c.args.asked.value c.requires.idle room))
