use Rattle.std.proofs.Common.{◌+◌, refl, sym, ap, ◌∙◌, arith, Some, set}
use Rattle.tab_core.specs.declared.transaction.Transaction as kept
use Rattle.tab_core.specs.Parts.{parts_of}
use Rattle.tab_core.proofs.Numbers.{at_most, not_at_most}
use Rattle.tab_core.proofs.Keeping as keep
use Rattle.tab_core.proofs.Keeping.{the_session, parts, with_transaction}
use Rattle.tab_core.proofs.LevelEnds as ending
use Rattle.tab_core.proofs.MachineSteps as steps
use Rattle.tab_core.specs.Works.{NestsTo}
use Rattle.tab_core.proofs.machine.Machine.begin.Goals as goal

pub returns-in_err-nest-clause-kept : goal.returns-in_err-nest-clause-kept
returns-in_err-nest-clause-kept g c =
    let m = parts_of c.args.self.now in
    let n = c.args.session in
    let i = c.args.place in
    let o = keep.some_of _ (sym c.if-is_some.ensures) in
    let open_t = sym c.transaction.ensures ∙ o.1 in
    (ending.nest_refused m n i c.requires.kept c.requires.there o.0 open_t c.nest.new.slot (parts m (set m.sessions i (with_transaction (the_session m n i) c.nest.new.slot)) m.ages m.queue) (c.in_err-nest.ensures.err ∙ c.transaction_mut.ensures.value)
    (record { catalog = refl; sessions = refl; queue = refl; limits = refl; begun = refl; commits = refl; greatest = refl }) refl refl).1

pub returns-then-is_some : goal.returns-then-is_some
returns-then-is_some g c =
    let m = parts_of c.args.self.now in
    let n = c.args.session in
    let i = c.args.place in
    let o = keep.some_of _ (sym c.if-is_some.ensures) in
    let open_t = sym c.transaction.ensures ∙ o.1 in
    let all = ending.nest_exit m n i c.requires.kept c.requires.there o.0 open_t c.nest.new.slot _ (parts m (set m.sessions i (with_transaction (the_session m n i) c.nest.new.slot)) m.ages m.queue) c.requires.idle
    (keep.if_some (λ u. NestsTo m.limits u c.nest.new.slot _) _ o.0 (c.transaction_mut.ensures.value ∙ open_t) c.in_ok-nest.ensures.ok)
    (record { catalog = refl; sessions = refl; queue = refl; limits = refl; begun = refl; commits = refl; greatest = refl }) refl refl in
    record { ok = all.0; free = λ h. refl; told = λ h. refl; err = tt; kept = all.1 }

pub returns-then-self-clause-ok : goal.returns-then-self-clause-ok
returns-then-self-clause-ok g c =
    let m = parts_of c.args.self.now in
    let n = c.args.session in
    let i = c.args.place in
    ending.no_more_ages m n i c.requires.kept c.requires.there (sym c.transaction.ensures ∙ keep.none_of _ (sym c.if-is_some.ensures)) c.requires.idle (not_at_most _ _ (omega (arith, c.if-self.true)))

pub returns : goal.returns
returns g c =
    let m = parts_of c.args.self.now in
    let n = c.args.session in
    let i = c.args.place in
    let closed = sym c.transaction.ensures ∙ keep.none_of _ (sym c.if-is_some.ensures) in
    let begun = ap (λ st. set m.sessions i (with_transaction (the_session m n i) (Some (let z : kept.Transaction = record { age = m.begun + 1; store = st } in z)))) c.new.ensures in
    let all = ending.begin_exit m n i c.requires.kept c.requires.there closed c.requires.idle _ (at_most _ _ (omega (arith, c.if-self.false))) refl begun refl refl refl refl refl refl in
    record { ok = all.0; free = λ h. refl; told = λ h. refl; err = tt; kept = all.1 }

pub returns-in_err-nest-clause-free : goal.returns-in_err-nest-clause-free
returns-in_err-nest-clause-free g c =
    let m = parts_of c.args.self.now in
    let n = c.args.session in
    let i = c.args.place in
    let o = keep.some_of _ (sym c.if-is_some.ensures) in
    let open_t = sym c.transaction.ensures ∙ o.1 in
    λ none. absurd (steps.open_at m n i c.requires.kept c.requires.there o.0 open_t none)

pub returns-in_err-nest-clause-told : goal.returns-in_err-nest-clause-told
returns-in_err-nest-clause-told g c =
    let m = parts_of c.args.self.now in
    let n = c.args.session in
    let i = c.args.place in
    let o = keep.some_of _ (sym c.if-is_some.ensures) in
    let open_t = sym c.transaction.ensures ∙ o.1 in
    let room = steps.has_room_for m.limits o.0 _ c.nest.result _ (c.transaction_mut.ensures.value ∙ open_t) c.nest.ensures.free c.in_err-nest.was in
    λ h. absurd (steps.differ _ h (steps.begin_told m n i c.requires.kept c.requires.there o.0 open_t c.requires.idle room))
