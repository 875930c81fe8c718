use Rattle.std.proofs.Common.{◌≡◌, OnOk, sym, ap, ◌∙◌, subst}
use Rattle.tab_rows.specs.Updates.{change_in}
use Rattle.tab_txstore.specs.Overlays.{touch as touch_of}
use Rattle.tab_txstore.proofs.touching.touch.Goals as goal

pub returns-in-Change-clause-ok : goal.returns-in-Change-clause-ok
returns-in-Change-clause-ok c =
    subst (λ u. OnOk c.touch_change.result (c.touch_change.new.overlay ≡ touch_of c.args.committed.now c.args.overlay.now u)) (ap change_in (sym c.in-Change.is) ∙ c.form.ensures) c.touch_change.ensures.ok

pub returns-in_ok-to_change-in-Bag-clause-ok : goal.returns-in_ok-to_change-in-Bag-clause-ok
returns-in_ok-to_change-in-Bag-clause-ok c =
    subst (λ u. OnOk c.touch_change-in-Bag.result (c.touch_change-in-Bag.new.overlay ≡ touch_of c.args.committed.now c.args.overlay.now u)) c.in_ok-to_change-in-Bag.ensures c.touch_change-in-Bag.ensures.ok
