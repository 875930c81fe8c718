use Rattle.std.proofs.Common.{List, map, refl, ap, ◌∙◌}
use Rattle.std.specs.Prelude.{option_to_list}
use Rattle.tab_model.specs.Slices.{batch_for}
use Rattle.tab_model.specs.State.{level_in}
use Rattle.tab_subs.specs.Subscribers.{Subscriber}
use Rattle.tab_subs.proofs.Batches.{all_made}
use Rattle.tab_subs.proofs.subs.Subs.due_of.Goals as goal

pub returns : goal.returns
returns g c =
    let items = λ (ss : List (Subscriber _)). map (λ (s : Subscriber _). batch_for (level_in s.watching) c.args.commit c.args.events.now) ss in
    let due = all_made items (map option_to_list c.loop-slot.due.items) c.deref-slot-items.result.now c.loop-slot.slot-index refl c.loop-slot-test.false c.loop-slot.invariant.due in
    due ∙ ap items (c.deref-slot-items.ensures.value ∙ c.self.view_is)
