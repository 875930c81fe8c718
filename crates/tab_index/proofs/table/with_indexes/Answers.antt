use Rattle.std.proofs.Common.{sym, ap, ◌∙◌}
use Rattle.tab_model.specs.Definitions.{with_indexes}
use Rattle.tab_index.specs.Indexed.{positions}
use Rattle.tab_index.proofs.IndexedLemmas.{leads_again}
use Rattle.tab_index.proofs.table.with_indexes.Goals as goal

pub invariant_of-result : goal.invariant_of-result
invariant_of-result c =
    let def = c.in_ok-new.ensures.ok ∙ c.in_ok-def.ensures ∙ ap (λ ns. with_indexes c.args.def.now ns) c.in_ok-numbers.ensures in
    let bare = c.requires.bare in
    record {
      kind = bare.kind ∙ sym (ap (λ d. d.kind) def);
      ordered = bare.ordered;
      apart = bare.apart;
      positions_are = sym (ap positions c.deref.ensures.value) ∙ sym (ap (λ d. d.indexes) def);
      indexes_are = c.requires.indexes;
      leads = leads_again c.args.def.now _ c.args.rows.1 c.args.backlog (ap (λ d. d.kind) def) c.requires.leads;
    }
