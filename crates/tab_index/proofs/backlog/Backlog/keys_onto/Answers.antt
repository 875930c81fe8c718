use Rattle.std.proofs.Common.{◌+◌, ◌||◌, drop, sym, ap, ◌∙◌}
use Rattle.std.proofs.lemmas.List.{at_drop_more}
use Rattle.std.specs.List.{list_any}
use Rattle.tab_term.specs.Order.{term_cmp}
use Rattle.tab_term.specs.View.{term}
use Rattle.tab_map.specs.KeyList.{contains_key}
use Rattle.tab_index.specs.Indexed.{writes}
use Rattle.tab_index.proofs.BacklogLemmas.{turned}
use Rattle.tab_index.proofs.backlog.Backlog.keys_onto.Goals as goal

pub loop-update-preserved : goal.loop-update-preserved
loop-update-preserved c = record {
  in_order = c.in_ok-add_key.ensures.in_order;
  keys = λ k.
      let w = writes c.args.position (term c.args.value.now) (term k) in
      let changes = c.deref-update-items.result.now in
      let i = c.loop-update.update-index in
      let change = c.update-item.result in
      ap (λ b. list_any w (drop (i + 1) changes) || b) (c.in_ok-add_key.ensures.keys k)
      ∙ turned (w change) (list_any w (drop (i + 1) changes)) (contains_key term_cmp k c.loop-update.keys)
      ∙ ap (λ d. (w d || list_any w (drop (i + 1) changes)) || contains_key term_cmp k c.loop-update.keys) c.update-item.is
      ∙ ap (λ b. b || contains_key term_cmp k c.loop-update.keys) (sym (at_drop_more (list_any w) changes i change c.loop-update-test.true))
      ∙ c.loop-update.invariant.keys k;
}
