use Rattle.std.proofs.Common.{sym, ap, ◌∙◌}
use Rattle.tab_term.specs.Order.{bytes_cmp, term_cmp}
use Rattle.tab_map.specs.Entries.{lookup}
use Rattle.tab_model.specs.declared.data.TableDef.{TableDef}
use Rattle.tab_txstore.specs.Overlays.{touched_in}
use Rattle.tab_txstore.proofs.touching.appended.Goals as goal

pub returns-else-contains : goal.returns-else-contains
returns-else-contains c =
    let v = c.args.overlay.now in
    let table = c.in_ok-get-in-Bag.ensures.value ∙ ap (λ (d : TableDef). lookup bytes_cmp d.name v) c.def-in-Bag.ensures in
    record {
      write = c.in-Write.is;
      kind = ap (λ (d : TableDef). d.kind) (sym c.def.ensures) ∙ c.in-Bag.is;
      records = c.in_ok-records-in-Bag.records.now;
      there = ap (λ o. lookup term_cmp c.args.key.now (touched_in o)) (sym table) ∙ sym c.in_ok-records-in-Bag.ensures.value;
      new = sym c.contains.ensures ∙ c.if-contains.false;
    }
