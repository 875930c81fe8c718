use Rattle.std.proofs.Common.{ap, ◌∙◌}
use Rattle.std.proofs.lemmas.Result.{IfOk-weaker}
use Rattle.tab_term.specs.View.{term}
use Rattle.tab_lists.proofs.ListsLemmas.{list-plain}
use Rattle.tab_model.specs.Names.{plain_terms, terms_list}
use Rattle.tab_model.specs.WholeTables.{match_object}
use Rattle.tab_txstore.specs.Overlays.{touched, seen_at}
use Rattle.tab_txstore.proofs.store.TxStore.match_at.Goals as goal

pub returns-in-Some : goal.returns-in-Some
returns-in-Some c =
    let rows = seen_at (touched c.args.self.now.levels.now.overlay c.args.committed.now.def.name) c.args.committed.now.rows (term c.args.key.now) in
    IfOk-weaker c.match_entry.result _ _ (λ all h. h ∙ ap (λ z. plain_terms (match_object z (term c.args.pattern.now))) (ap terms_list c.in-Some.ensures ∙ list-plain rows)) c.match_entry.ensures
