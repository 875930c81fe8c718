use Rattle.std.proofs.Common.{refl, ◌∙◌, arith}
use Rattle.tab_model.specs.declared.data.Limit.TheVariants as limit
use Rattle.tab_model.specs.declared.data.Reply.TheVariants as reply
use Rattle.tab_core.specs.Parts.{parts_of, state_of}
use Rattle.tab_core.proofs.Numbers.{less, not_less}
use Rattle.tab_core.proofs.Answering as answering
use Rattle.tab_core.proofs.MachineSteps as steps
use Rattle.tab_core.proofs.machine.Machine.join.Goals as goal

pub returns-then-session-self-clause-done : goal.returns-then-session-self-clause-done
returns-then-session-self-clause-done g c =
    let m = parts_of c.args.self.now in
    answering.joins_old m c.args.session (g.P.Post.outbox c.args.post) (not_less _ _ c.if-session-self.true) ∙ answering.without_entry (state_of m) reply.BadSession c.without_entry.result c.without_entry.ensures

pub returns-then-len-self-clause-done : goal.returns-then-len-self-clause-done
returns-then-len-self-clause-done g c =
    let m = parts_of c.args.self.now in
    let n = c.args.session in
    let new = less _ _ c.if-session-self.false in
    answering.joins_none m n (g.P.Post.outbox c.args.post) (answering.newcomer m n c.requires.kept new) new (not_less _ _ (omega (arith, c.if-len-self.true, c.len.ensures)))
    ∙ answering.without_entry (state_of m) (reply.SystemLimit limit.Sessions) c.without_entry-then-len-self.result c.without_entry-then-len-self.ensures

pub join-requires : goal.join-requires
join-requires g c = record { above = answering.all_below (parts_of c.args.self.now) c.args.session c.requires.kept (less _ _ c.if-session-self.false) }

pub returns : goal.returns
returns g c =
    let m = parts_of c.args.self.now in
    let n = c.args.session in
    let new = less _ _ c.if-session-self.false in
    let all = answering.join_exit m n (g.P.Post.outbox c.args.post) c.requires.kept (answering.newcomer m n c.requires.kept new) new (less _ _ (omega (arith, c.if-len-self.false, c.len.ensures))) c.join.new.self c.in_ok-join.ensures.ok in
    record { done = all.0 ∙ answering.without_entry (state_of (record m { sessions = c.join.new.self; greatest = n })) reply.Done c.without_entry-2.result c.without_entry-2.ensures; told = λ h. refl; err = tt; kept = all.1 }

pub returns-in_err-join-clause-told : goal.returns-in_err-join-clause-told
returns-in_err-join-clause-told g c =
    let m = parts_of c.args.self.now in
    let n = c.args.session in
    let new = less _ _ c.if-session-self.false in
    λ h. absurd (steps.differ _ h (steps.joins_told m n (g.P.Post.outbox c.args.post) (answering.newcomer m n c.requires.kept new) new (less _ _ (omega (arith, c.if-len-self.false, c.len.ensures)))))
