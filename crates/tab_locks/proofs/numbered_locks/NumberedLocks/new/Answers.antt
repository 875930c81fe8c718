use Rattle.std.proofs.Common.{sym, subst}
use Rattle.tab_locks.specs.Numbered.{IsApart}
use Rattle.tab_locks.proofs.NumberedLocks.{apart_none}
use Rattle.tab_locks.proofs.numbered_locks.NumberedLocks.new.Goals as goal

pub invariant_of-result : goal.invariant_of-result
invariant_of-result c = record {
  ordered = c.new.ensures.ordered;
  apart = subst IsApart (sym c.new.ensures.empty) apart_none;
}
