use Rattle.std.proofs.Common.{◌≡◌, true}
use Rattle.tab_term.specs.Canon.{all_bytes, bytes_of}
use Rattle.tab_term.specs.Data.{plain_terms}
use Rattle.tab_etf.proofs.SharedElements.{WritesAllBut}
use Rattle.tab_etf.proofs.shared.put_bytes.Given as goal

abbrev pub invariant-loop-t : goal.invariant-loop-t
invariant-loop-t g l =
    WritesAllBut g.W.Target.contents g.W.Target.faults l.initial.writer l.writer (bytes_of (plain_terms l.t-iterator)) (bytes_of l.ts)
    × (all_bytes (plain_terms l.t-iterator) ≡ true)
