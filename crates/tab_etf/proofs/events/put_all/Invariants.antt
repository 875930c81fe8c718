use Rattle.std.proofs.Common.{take}
use Rattle.tab_term.specs.Canon.{canons}
use Rattle.tab_lists.specs.EventTerms.{event_terms}
use Rattle.tab_etf.specs.Writing.{Writes}
use Rattle.tab_etf.proofs.events.put_all.Given as goal

abbrev pub invariant-loop-event : goal.invariant-loop-event
invariant-loop-event g l = Writes g.W.Target.contents g.W.Target.faults l.initial.writer l.writer (canons (event_terms (take l.event-index l.items)))
