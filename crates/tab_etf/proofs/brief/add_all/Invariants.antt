use Rattle.std.proofs.Common.{take}
use Rattle.tab_etf.specs.Briefs.{AddsInPlace}
use Rattle.tab_etf.proofs.brief.add_all.Given as goal

abbrev pub invariant-loop-byte : goal.invariant-loop-byte
invariant-loop-byte l = AddsInPlace l.initial.out l.out (take l.byte-index l.bytes)
