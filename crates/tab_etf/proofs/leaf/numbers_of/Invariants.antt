use Rattle.std.proofs.Common.{◌≡◌, take}
use Rattle.tab_term.specs.View.{terms}
use Rattle.tab_etf.specs.Spells.{numbers}
use Rattle.tab_etf.proofs.leaf.numbers_of.Given as goal

abbrev pub invariant-loop-byte : goal.invariant-loop-byte
invariant-loop-byte l = terms l.items.items ≡ numbers (take l.byte-index l.bytes)
