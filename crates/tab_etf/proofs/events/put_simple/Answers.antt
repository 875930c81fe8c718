use Rattle.std.proofs.Common.{ap, ◌∙◌}
use Rattle.tab_term.specs.Canon.{canon}
use Rattle.tab_term.specs.Data.{atom}
use Rattle.tab_term.specs.View.{term}
use Rattle.tab_lists.specs.EventTerms.{tag_word}
use Rattle.tab_term.specs.Tuples.{tid}
use Rattle.tab_etf.proofs.EventsSpelled.{atom_canon}
use Rattle.tab_etf.proofs.OutlinesLemmas.{writes_triple}
use Rattle.tab_etf.proofs.WritingLemmas.{writes_as}
use Rattle.tab_etf.proofs.events.put_simple.Goals as goal

pub returns : goal.returns
returns g c =
    let e = c.args.event.now in
    writes_triple (atom (tag_word e.tag)) (term e.what) (tid e.age)
    c.put.ensures
    (writes_as c.put_atom.ensures (atom_canon c.word.result.now ∙ ap (λ s. canon (atom s)) c.word.ensures.word))
    c.put-2.ensures
    c.put_tid.ensures
