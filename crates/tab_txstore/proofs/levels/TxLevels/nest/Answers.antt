use Rattle.std.proofs.Common.{rules, ap, ◌∙◌}
use Rattle.tab_txstore.specs.Stores.{nested}
use Rattle.tab_txstore.proofs.KeptLemmas.{push_rises, push_levels}
use Rattle.tab_txstore.proofs.levels.TxLevels.nest.Goals as goal

pub invariant_of-self-2 : goal.invariant_of-self-2
invariant_of-self-2 c = push_rises c.self.inside.updates.items c.self.inside.saved.items c.push.new.self.items (record { overlay = c.in_ok-overlay.overlay; updates = c.len.result }) c.in_ok-push.ensures.items (search rules) c.self.invariant

pub returns-clause-ok : goal.returns-clause-ok
returns-clause-ok c =
    push_levels c.self.inside.overlay c.self.inside.updates.items c.self.inside.saved.items c.push.new.self.items (record { overlay = c.in_ok-overlay.overlay; updates = c.len.result }) c.in_ok-push.ensures.items c.in_ok-overlay.ensures (search rules)
    ∙ ap nested c.self.view_is
