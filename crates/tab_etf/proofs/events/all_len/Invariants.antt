use Rattle.std.proofs.Common.{◌≡◌, ◌-◌, ◌^◌, min, take, length}
use Rattle.tab_term.specs.Canon.{canons}
use Rattle.tab_lists.specs.EventTerms.{event_terms}
use Rattle.tab_etf.proofs.events.all_len.Given as goal

abbrev pub invariant-loop-event : goal.invariant-loop-event
invariant-loop-event l = l.sum ≡ min (length (canons (event_terms (take l.event-index l.items)))) (2 ^ 64 - 1)
