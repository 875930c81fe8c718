use Rattle.std.proofs.Common.{ap, ◌∙◌}
use Rattle.tab_model.specs.declared.data.TableDef.{TableDef}
use Rattle.tab_txstore.proofs.LeftLemmas.{touch_only}
use Rattle.tab_txstore.proofs.touching.put_only.Goals as goal

pub returns-clause-ok : goal.returns-clause-ok
returns-clause-ok c =
    let name = c.in_ok-name.ensures.ok ∙ ap (λ (d : TableDef). d.name) c.def.ensures in
    touch_only c.args.committed.now c.args.overlay.now c.args.only.now c.in_ok-name.name c.in_ok-entry.entry c.put.new.overlay name c.requires.kind c.in_ok-entry.ensures c.in_ok-put.ensures.ok
