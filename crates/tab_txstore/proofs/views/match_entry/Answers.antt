use Rattle.std.proofs.Common.{sym, ap, ◌∙◌}
use Rattle.tab_term.specs.Data.{count}
use Rattle.tab_term.specs.Pattern.{matches}
use Rattle.tab_term.specs.View.{term}
use Rattle.tab_lists.proofs.ListsLemmas.{plain-list}
use Rattle.tab_model.specs.Names.{plain_terms, terms_list}
use Rattle.tab_rows.proofs.Cells.{filter_all}
use Rattle.tab_txstore.proofs.FilterLemmas.{none_alone}
use Rattle.tab_txstore.proofs.views.match_entry.Goals as goal

pub returns-in_ok-try_clone-in-None : goal.returns-in_ok-try_clone-in-None
returns-in_ok-try_clone-in-None c =
    let all = filter_all (matches (term c.args.pattern.now)) (terms_list c.args.entry.now.1) (sym c.fits.ensures ∙ c.if-fits.true) in
    c.from_entry.ensures ∙ ap (λ e. e.1) c.in_ok-try_clone-in-None.ensures ∙ sym (plain-list c.args.entry.now.1) ∙ ap plain_terms (sym all)

pub returns-in-None-2 : goal.returns-in-None-2
returns-in-None-2 c =
    let one = ap (λ e. count e.1) (sym c.pair.ensures) ∙ c.in-None.ensures in
    c.no_records.ensures ∙ ap plain_terms (none_alone (matches (term c.args.pattern.now)) c.args.entry.now.1 one (sym c.fits.ensures ∙ c.if-fits.false))
