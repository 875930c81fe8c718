use Rattle.tab_term.specs.Canon.{canons}
use Rattle.tab_term.specs.Data.{plain_terms}
use Rattle.tab_etf.proofs.SharedElements.{WritesAllBut}
use Rattle.tab_etf.proofs.shared.put_all.Given as goal

abbrev pub invariant-loop-t : goal.invariant-loop-t
invariant-loop-t g l = WritesAllBut g.W.Target.contents g.W.Target.faults l.initial.writer l.writer (canons (plain_terms l.t-iterator)) (canons l.ts)
