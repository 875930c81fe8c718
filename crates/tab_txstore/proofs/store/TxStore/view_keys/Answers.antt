use Rattle.std.proofs.Common.{ap, sym, ◌∙◌, subst}
use Rattle.tab_model.specs.Names.{plain_terms}
use Rattle.tab_model.specs.Tables.{Rows}
use Rattle.tab_txstore.specs.Merged.{merged, filled_keys, IsSeen}
use Rattle.tab_txstore.specs.Overlays.{Touched, touched}
use Rattle.tab_txstore.proofs.MergedLemmas.{keys_seen}
use Rattle.tab_txstore.proofs.store.TxStore.view_keys.Goals as goal

pub returns : goal.returns
returns c seen h =
    let s = c.in_ok-snapshot.field-0 in
    let m = c.in_ok-snapshot.ensures in
    let own = touched c.args.self.now.levels.now.overlay c.args.committed.now.def.name in
    c.from_keys.ensures
    ∙ ap (λ (xs : Touched). plain_terms (filled_keys (merged xs s.committed))) m.own
    ∙ ap plain_terms (keys_seen own s.committed seen m.ascends m.order (subst (λ (rs : Rows). IsSeen own rs seen) (sym m.committed) h))
