use Rattle.std.proofs.Common.{◌≡◌, [], ap, sym, ◌∙◌, subst}
use Rattle.std.specs.Option.{option_copied, option_map}
use Rattle.std.specs.Prelude.{MatchOption}
use Rattle.tab_term.specs.Order.{bytes_cmp}
use Rattle.tab_map.specs.Entries.{lookup}
use Rattle.tab_model.specs.Names.{plain_terms}
use Rattle.tab_model.specs.Tables.{Rows}
use Rattle.tab_model.specs.declared.data.TableDef.{TableDef}
use Rattle.tab_txstore.proofs.LeftLemmas.{seen_found, seen_committed, seen_apart}
use Rattle.tab_txstore.proofs.touching.seen_entry.Goals as goal

pub returns-in-Some-get_entry : goal.returns-in-Some-get_entry
returns-in-Some-get_entry c =
    seen_found c.args.overlay.now c.args.committed.now.def.name c.args.committed.now.rows c.args.key.now c.in-Some.keys.now c.in-Some-get_entry.entry.now.1
    (ap option_copied (sym c.in-Some.is) ∙ c.get.ensures.value ∙ ap (λ d. lookup bytes_cmp (TableDef.name d) c.args.overlay.now) c.def.ensures)
    (ap (λ o. option_map (λ e. e.1) (option_copied o)) (sym c.in-Some-get_entry.is) ∙ c.get_entry.ensures.value)

pub returns-in-None-get_entry : goal.returns-in-None-get_entry
returns-in-None-get_entry c =
    subst (λ (rows : Rows). MatchOption c.entry.result (rows ≡ []) (λ e. e.now.1 ≡ plain_terms rows))
    (
    seen_committed c.args.overlay.now c.args.committed.now.def.name c.args.committed.now.rows c.args.key.now c.in-Some.keys.now
    (ap option_copied (sym c.in-Some.is) ∙ c.get.ensures.value ∙ ap (λ d. lookup bytes_cmp (TableDef.name d) c.args.overlay.now) c.def.ensures)
    (ap (λ o. option_map (λ e. e.1) (option_copied o)) (sym c.in-None-get_entry.is) ∙ c.get_entry.ensures.value)
    )
    c.entry.ensures

pub returns-in-None : goal.returns-in-None
returns-in-None c =
    subst (λ (rows : Rows). MatchOption c.entry-in-None.result (rows ≡ []) (λ e. e.now.1 ≡ plain_terms rows))
    (
    seen_apart c.args.overlay.now c.args.committed.now.def.name c.args.committed.now.rows c.args.key.now
    (ap option_copied (sym c.in-None.is) ∙ c.get.ensures.value ∙ ap (λ d. lookup bytes_cmp (TableDef.name d) c.args.overlay.now) c.def.ensures)
    )
    c.entry-in-None.ensures
