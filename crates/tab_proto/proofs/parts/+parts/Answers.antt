use Rattle.std.proofs.Common.{ap, sym, subst, arith, length}
use Rattle.std.proofs.lemmas.Result.{err_from_is_err_and}
use Rattle.std.specs.Prelude.{codes}
use Rattle.tab_term.specs.Data.{atom, none, one_more, pair}
use Rattle.tab_proto.specs.Reading.{AddsParts}
use Rattle.tab_proto.proofs.PartsLemmas.{adds_inner, on_ok, one_read, refuses_list}
use Rattle.tab_proto.proofs.parts.+parts.Goals as goal

pub push_inner-returns-clause-ok : goal.push_inner-returns-clause-ok
push_inner-returns-clause-ok t c =
    on_ok _ _ _ (λ closed. subst (λ x. AddsParts c.args.parts.now.items c.push-2.new.parts.items (one_more (pair (atom (codes "transaction")) x) none))
    (sym c.in_ok-members.ensures.ok)
    (adds_inner _ _ _ _ _ c.in_ok-push.ensures.ok c.in_ok-push_parts.ensures.ok closed)) c.push-2.ensures.ok

pub push_parts-loop-member-preserved : goal.push_parts-loop-member-preserved
push_parts-loop-member-preserved t c =
    let inv = c.loop-member.invariant in
    let steps = c.in-Some.ensures.steps in (
      one_read _ _ _ _ c.in-Some.member _ _ steps.0 inv.0 c.in_ok-push_part.ensures.ok,
      omega (arith, inv.1, ap length steps.0, steps.1),
    )

pub push_parts-returns-in_err-push_part-clause-bad : goal.push_parts-returns-in_err-push_part-clause-bad
push_parts-returns-in_err-push_part-clause-bad t c =
    let p = err_from_is_err_and c.from_residual.result c.from_residual.ensures.1 in
    rw (p.1, p.2) (refuses_list c.args.members _ _ c.in-Some.member _ _ c.in_err-push_part.field-0.0 c.in-Some.ensures.steps.0 c.loop-member.invariant.0 c.in_err-push_part.ensures.bad)
