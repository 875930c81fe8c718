use Rattle.std.proofs.Common.{refl, ap, ◌∙◌}
use Rattle.tab_term.specs.Order.{bytes_cmp, term_cmp}
use Rattle.tab_term.specs.View.{term}
use Rattle.tab_map.specs.Entries.{insert_entry}
use Rattle.tab_model.specs.declared.data.TableDef.{TableDef}
use Rattle.tab_model.specs.Names.{plain_terms}
use Rattle.tab_txstore.specs.Overlays.{touched, seen_at}
use Rattle.tab_txstore.proofs.LeftLemmas.{touch_made}
use Rattle.tab_txstore.proofs.TouchingLemmas.{appends_there, appended_touch}
use Rattle.tab_txstore.proofs.touching.touch_change.Goals as goal

pub append-requires : goal.append-requires
append-requires c =
    let name = c.in_ok-name.ensures.ok ∙ ap (λ (d : TableDef). d.name) c.def.ensures in
    appends_there c.args.committed.now c.args.overlay.now c.in_ok-key.key c.args.change.now c.in-Some.row.now c.in_ok-name.name name c.in-Some.ensures

pub returns-in-Some-clause-ok : goal.returns-in-Some-clause-ok
returns-in-Some-clause-ok c =
    let name = c.in_ok-name.ensures.ok ∙ ap (λ (d : TableDef). d.name) c.def.ensures in
    appended_touch c.args.committed.now c.args.overlay.now c.in_ok-key.key c.args.change.now c.in-Some.row.now c.in_ok-row.row c.in_ok-name.name c.append.new.overlay name c.in_ok-key.ensures c.in_ok-row.ensures c.in-Some.ensures c.in_ok-append.ensures.ok

pub returns-clause-ok : goal.returns-clause-ok
returns-clause-ok c =
    let v = c.args.overlay.now in
    let u = c.args.change.now in
    let x = c.args.committed.now in
    let key = c.in_ok-key.key in
    let name = c.in_ok-name.ensures.ok ∙ ap (λ (d : TableDef). d.name) c.def.ensures in
    let keys = touched v c.in_ok-name.name in
    touch_made x v u c.in_ok-name.name key (plain_terms (seen_at (touched v x.def.name) x.rows (term key))) c.in_ok-records.records keys (insert_entry term_cmp (key, c.in_ok-records.records) keys) c.put.new.overlay
    name c.in_ok-key.ensures refl c.in_ok-records.ensures refl refl
    (c.in_ok-put.ensures.ok ∙ ap (λ e. insert_entry bytes_cmp (c.in_ok-name.name, insert_entry term_cmp e keys) v) c.in_ok-entry.ensures)
