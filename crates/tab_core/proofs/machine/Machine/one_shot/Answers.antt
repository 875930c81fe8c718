use Rattle.std.proofs.Common.{sym, ◌∙◌}
use Rattle.tab_core.proofs.Keeping as keep
use Rattle.tab_core.proofs.Keeping.{the_session}
use Rattle.tab_core.proofs.OneShots.{inside, outside}
use Rattle.tab_core.proofs.MachineSteps as steps
use Rattle.tab_core.proofs.Answering as answering
use Rattle.tab_core.proofs.machine.Machine.one_shot.Goals as goal
use Rattle.tab_core.specs.Parts.{parts_of, state_of}

pub returns-then-is_some-clause-ok : goal.returns-then-is_some-clause-ok
returns-then-is_some-clause-ok g c =
    let m = parts_of c.args.self.now in
    let n = c.args.session in
    let i = c.args.place in
    let o = keep.some_of _ (sym c.if-is_some.ensures) in
    let open_t = sym c.transaction.ensures ∙ o.1 in
    inside m n i c.requires.there c.requires.idle o.0 open_t

pub returns-clause-ok : goal.returns-clause-ok
returns-clause-ok g c =
    let m = parts_of c.args.self.now in
    let n = c.args.session in
    let i = c.args.place in
    outside m n i c.requires.there c.requires.idle (sym c.transaction.ensures ∙ keep.none_of _ (sym c.if-is_some.ensures)) (state_of (parts_of c.begin.new.self)) _ c.in_ok-begin.ensures.ok

pub returns-in_err-begin-clause-free : goal.returns-in_err-begin-clause-free
returns-in_err-begin-clause-free g c =
    let m = parts_of c.args.self.now in
    let n = c.args.session in
    let i = c.args.place in
    let closed = sym c.transaction.ensures ∙ keep.none_of _ (sym c.if-is_some.ensures) in
    absurd (answering.not_refused _ _ c.in_err-begin.was (c.begin.ensures.free (steps.closed_at m n i c.requires.kept c.requires.there closed)))
