use Rattle.std.proofs.Common.{◌≡◌, ◌||◌, drop}
use Rattle.std.specs.List.{list_any}
use Rattle.tab_term.specs.declared.term.Term.{Term}
use Rattle.tab_term.specs.Order.{term_cmp}
use Rattle.tab_term.specs.View.{term}
use Rattle.tab_map.specs.KeyList.{contains_key, KeysAscend}
use Rattle.tab_index.specs.Indexed.{writes}
use Rattle.tab_index.proofs.backlog.Backlog.keys_onto.Given as goal

abbrev pub invariant-loop-update : goal.invariant-loop-update
invariant-loop-update l = record {
  in_order : KeysAscend term_cmp l.keys;
  keys : (k : Term) → (list_any (writes l.position (term l.value) (term k)) (drop l.update-index l.update-items) || contains_key term_cmp k l.keys)
      ≡ (list_any (writes l.position (term l.value) (term k)) l.update-items || contains_key term_cmp k l.initial.keys);
}
