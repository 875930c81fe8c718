use Rattle.std.proofs.Common.{◌∙◌}
use Rattle.tab_rows.proofs.RestoredLemmas.{popped}
use Rattle.tab_rows.proofs.rows.Rows.undo_all.Goals as goal

pub loop-before-preserved-in-Some : goal.loop-before-preserved-in-Some
loop-before-preserved-in-Some g c =
    popped c.loop-before.self c.undo.new.self c.loop-before.former.items c.pop.new.self.items c.in-Some.before c.in-Some.ensures.items c.undo.ensures ∙ c.loop-before.invariant

pub loop-before-preserved : goal.loop-before-preserved
loop-before-preserved g c =
    popped c.loop-before.self c.undo.new.self c.loop-before.former.items c.pop.new.self.items c.in-Some.before c.in-Some.ensures.items c.undo.ensures ∙ c.loop-before.invariant
