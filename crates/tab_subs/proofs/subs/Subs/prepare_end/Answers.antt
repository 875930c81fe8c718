use Rattle.std.proofs.Common.{◌≡◌, List, map, refl, ap, ap₂, ◌∙◌, subst}
use Rattle.std.specs.Prelude.{option_to_list, IfOk, Some}
use Rattle.tab_model.specs.Slices.{end_for}
use Rattle.tab_model.specs.State.{level_in}
use Rattle.tab_subs.specs.Deliveries.{Owed}
use Rattle.tab_subs.specs.Subscribers.{Subscriber}
use Rattle.tab_subs.proofs.Batches.{all_made}
use Rattle.tab_subs.proofs.subs.Subs.prepare_end.Goals as goal

pub returns : goal.returns
returns g c =
    let items = λ (ss : List (Subscriber _)). map (λ (s : Subscriber _). end_for (level_in s.watching) (Some c.args.table.now)) ss in
    let made = all_made items (map option_to_list c.loop-slot.due.items) c.deref-slot-items.result.now c.loop-slot.slot-index refl c.loop-slot-test.false c.loop-slot.invariant in
    let due = made ∙ ap items (c.deref-slot-items.ensures.value ∙ c.self.view_is) in
    subst (λ z. IfOk c.with_room.result (λ p. p ≡ z)) (ap₂ (λ xs t. let o : Owed = record { number = c.args.commit; items = xs; ended = Some t } in o) due c.in_ok-try_clone.ensures.ok) c.with_room.ensures
