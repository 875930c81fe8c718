use Rattle.std.proofs.Common.{Some, None}
use Rattle.tab_model.specs.declared.data.Reply.TheVariants as reply
use Rattle.tab_core.specs.Parts.{parts_of}
use Rattle.tab_core.proofs.SessionsLemmas.{nowhere, somewhere}
use Rattle.tab_core.proofs.MarksLemmas.{unjoined, waits_now, nothing_yet, seen}
use Rattle.tab_core.proofs.Core.session_refusal.Goals as goal

pub returns-then-is_none : goal.returns-then-is_none
returns-then-is_none g c =
    let m = parts_of c.self.inside.machine in
    let n = c.args.session in
    seen m c.args.self.now c.self.view_is n (λ μ s. None) (Some reply.BadSession)
    (unjoined m n (λ s. None) (nowhere m.sessions n c.place.result c.place.ensures c.if-is_none.ensures))

pub returns-then-waits : goal.returns-then-waits
returns-then-waits g c =
    let m = parts_of c.self.inside.machine in
    let n = c.args.session in
    let b = somewhere m.sessions n c.place.result c.place.ensures c.if-is_none.ensures in
    seen m c.args.self.now c.self.view_is n (λ μ s. None) (Some reply.WaitingNow) (waits_now m n (λ s. None) b.0 b.1 (c.if-waits.ensures))

pub returns : goal.returns
returns g c =
    let m = parts_of c.self.inside.machine in
    let n = c.args.session in
    let b = somewhere m.sessions n c.place.result c.place.ensures c.if-is_none.ensures in
    seen m c.args.self.now c.self.view_is n (λ μ s. None) None (nothing_yet m n b.0 b.1 (c.if-waits.ensures))
