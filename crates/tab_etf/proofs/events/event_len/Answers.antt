use Rattle.std.proofs.Common.{arith, codes}
use Rattle.tab_term.specs.Data.{atom}
use Rattle.tab_lists.specs.EventTerms.{event_body}
use Rattle.tab_etf.proofs.OutlinesLemmas.{pair_length}
use Rattle.tab_etf.proofs.events.event_len.Goals as goal

pub returns : goal.returns
returns c =
    omega (arith, pair_length (atom (codes "mnesia_table_event")) (event_body c.args.event.now), c.body_len.ensures, c.word_len.ensures.value, c.saturating_add.ensures)
