use Rattle.std.proofs.Common.{ap, ◌∙◌, ◌++◌, ◌∷◌, []}
use Rattle.std.specs.Prelude.{Some}
use Rattle.tab_txstore.specs.Stores.{Levels, changed}
use Rattle.tab_txstore.specs.Kept.{levels_onto}
use Rattle.tab_txstore.proofs.KeptLemmas.{touch_rises, touch_levels}
use Rattle.tab_txstore.proofs.levels.TxLevels.change.Goals as goal

pub invariant_of-self-2 : goal.invariant_of-self-2
invariant_of-self-2 c =
    touch_rises c.self.inside.updates.items c.push_update.new.updates.items c.args.update c.self.inside.saved.items
    (c.push_update.ensures ∙ ap (λ us. us ++ c.args.update ∷ []) c.in_ok-reserve.ensures.items) c.self.invariant

pub returns-clause-ok : goal.returns-clause-ok
returns-clause-ok c =
    let us = c.self.inside.updates.items in
    let xs = c.self.inside.saved.items in
    let u = c.args.update in
    touch_levels c.touch.new.overlay us c.push_update.new.updates.items u xs (c.push_update.ensures ∙ ap (λ us. us ++ u ∷ []) c.in_ok-reserve.ensures.items) c.self.invariant
    ∙ ap (λ w. let l : Levels = record { now = record { overlay = w; updates = us ++ u ∷ [] }; saved = levels_onto us [] xs } in l) c.in_ok-touch.ensures.ok
    ∙ ap (λ (l : Levels). changed (Some c.args.committed.now) l (Some u)) c.self.view_is
