use Rattle.std.proofs.Common.{ap, ◌∙◌}
use Rattle.tab_term.specs.Order.{bytes_cmp}
use Rattle.tab_map.specs.Entries.{lookup}
use Rattle.tab_model.specs.declared.data.TableDef.{TableDef}
use Rattle.tab_txstore.specs.Stores.{Levels}
use Rattle.tab_txstore.proofs.levels.TxLevels.touched.Goals as goal

pub returns : goal.returns
returns c =
    c.get.ensures.value ∙ ap (λ (d : TableDef). lookup bytes_cmp d.name c.self.inside.overlay) c.def.ensures
    ∙ ap (λ (l : Levels). lookup bytes_cmp c.args.committed.now.def.name l.now.overlay) c.self.view_is
