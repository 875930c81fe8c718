use Rattle.std.proofs.Common.{sym, subst, inr, List, ◌∷◌}
use Rattle.tab_term.specs.Data.{PlainTerms}
use Rattle.tab_model.specs.declared.data.Reply.TheVariants as reply
use Rattle.tab_oneshot.specs.Attempts.{Joins}
use Rattle.tab_oneshot.specs.Parts.{turn_of}
use Rattle.tab_oneshot.proofs.HandingIn.{stopped}
use Rattle.tab_oneshot.proofs.parts.join.Goals as goal

-- the child's answers have no place: all levels around it end
pub returns : goal.returns
returns g c =
    let turn = turn_of c.stop.result c.put_inner.new.levels in
    let left = c.in-Some.ensures in
    let stop = stopped g.S.Steps.shows _ _ _ _ reply.NoMemory c.stop.result (left.0 ∷ left.1) c.put_inner.new.levels c.leave.new.self c.no_memory.ensures left.3 c.around-around.ensures c.stop.ensures in
    (stop.0, stop.1, subst (λ (ls : List PlainTerms). Joins c.args.answer.reply ls stop.0 turn) (sym left.2) (inr stop.2))
