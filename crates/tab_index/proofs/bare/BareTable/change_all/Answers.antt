use Rattle.tab_index.proofs.FurtherRows.{bare_after}
use Rattle.tab_index.proofs.bare.BareTable.change_all.Goals as goal

pub invariant_of-self-2 : goal.invariant_of-self-2
invariant_of-self-2 g c = bare_after c.self.inside.def.value c.self.inside.rows _ c.args.updates.now c.self.invariant c.in_ok-update_all.ensures.ok
