use Rattle.std.proofs.Common.{ap, ◌∙◌}
use Rattle.tab_term.specs.Canon.{canon}
use Rattle.tab_term.specs.Data.{atom, list}
use Rattle.tab_term.specs.View.{term}
use Rattle.tab_lists.specs.EventTerms.{tag_word}
use Rattle.tab_term.specs.Tuples.{tid}
use Rattle.tab_etf.proofs.EventsSpelled.{atom_canon, list_canon}
use Rattle.tab_etf.proofs.OutlinesLemmas.{writes_five}
use Rattle.tab_etf.proofs.SharedElements.{list_fits}
use Rattle.tab_etf.proofs.WritingLemmas.{writes_as}
use Rattle.tab_etf.proofs.events.put_detailed.Goals as goal

pub put_shared-requires-clause-fits : goal.put_shared-requires-clause-fits
put_shared-requires-clause-fits g c = list_fits c.args.detail.now.old c.requires

pub returns : goal.returns
returns g c =
    let e = c.args.event.now in
    let d = c.args.detail.now in
    writes_five (atom (tag_word e.tag)) (atom d.table) (term e.what) (list d.old) (tid e.age)
    c.put.ensures
    (writes_as c.put_atom.ensures (atom_canon c.word.result.now ∙ ap (λ s. canon (atom s)) c.word.ensures.word))
    (writes_as c.put_atom-2.ensures (atom_canon c.as_str.result.now ∙ ap (λ s. canon (atom s)) c.as_str.ensures.text))
    c.put-2.ensures
    (writes_as c.put_shared.ensures (list_canon d.old))
    c.put_tid.ensures
