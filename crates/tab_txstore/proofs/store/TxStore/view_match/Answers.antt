use Rattle.std.proofs.Common.{sym, ap, ◌∙◌, refl}
use Rattle.std.specs.List.{filter}
use Rattle.std.specs.Option.{option_copied}
use Rattle.std.specs.Prelude.{option_map}
use Rattle.std.proofs.lemmas.Result.{IfOk-weaker}
use Rattle.tab_term.specs.declared.term.Term.{Term}
use Rattle.tab_term.specs.Pattern.{matches}
use Rattle.tab_term.specs.View.{term}
use Rattle.tab_lists.specs.ByKey.{joined}
use Rattle.tab_model.specs.Names.{plain_terms}
use Rattle.tab_model.specs.WholeTables.{match_object}
use Rattle.tab_txstore.specs.Merged.{merged}
use Rattle.tab_txstore.specs.Overlays.{Touched, touched, seen_at}
use Rattle.tab_txstore.proofs.MatchLemmas.{match_at, whole_seen}
use Rattle.tab_txstore.proofs.store.TxStore.view_match.Goals as goal

pub returns-in-Some : goal.returns-in-Some
returns-in-Some c =
    let p = term c.args.pattern.now in
    let k = term c.in-Some.key.now in
    let own = touched c.args.self.now.levels.now.overlay c.args.committed.now.def.name in
    let rows = c.args.committed.now.rows in
    IfOk-weaker c.match_at.result _ _ (λ all e seen h. e ∙ ap plain_terms (match_at (match_object (seen_at own rows k) p) own rows seen p k refl (sym c.bound_key.ensures ∙ ap (λ o. option_map term (option_copied o)) c.in-Some.is) h)) c.match_at.ensures

pub returns : goal.returns
returns c =
    let s = c.in_ok-snapshot.field-0 in
    let m = c.in_ok-snapshot.ensures in
    let own = touched c.args.self.now.levels.now.overlay c.args.committed.now.def.name in
    IfOk-weaker c.from_query.result _ _
    (λ all e seen h. e ∙ ap (λ (t : Term). plain_terms (filter (matches (term t)) (joined (merged s.own s.committed)))) c.in_ok-try_clone.ensures
    ∙ ap (λ rs. plain_terms (match_object rs (term c.args.pattern.now))) (whole_seen (merged s.own s.committed) own s.committed c.args.committed.now.rows seen (ap (λ (xs : Touched). merged xs s.committed) m.own) m.committed m.order m.ascends h))
    c.from_query.ensures
