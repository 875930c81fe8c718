use Rattle.std.proofs.Common.{nat_cmp}
use Rattle.std.specs.BTreeMap.{is_at}
use Rattle.tab_locks.proofs.NumberedLocks.{apart_others, apart_without}
use Rattle.tab_locks.proofs.numbered_locks.NumberedLocks.remove.Goals as goal

pub invariant_of-self : goal.invariant_of-self
invariant_of-self c = record {
  ordered = c.self.invariant.ordered;
  apart = apart_others c.self.inside.first c.self.inside.others.entries c.self.invariant.apart;
}

pub returns-then-is_some-clause-apart : goal.returns-then-is_some-clause-apart
returns-then-is_some-clause-apart c = apart_others c.self.inside.first c.self.inside.others.entries c.self.invariant.apart

pub invariant_of-self-2 : goal.invariant_of-self-2
invariant_of-self-2 c = record {
  ordered = c.remove.ensures.ordered;
  apart = apart_without (is_at (nat_cmp c.args.number)) c.self.inside.first c.self.inside.others.entries c.remove.new.self.entries c.remove.ensures.entries c.remove.ensures.ordered c.self.invariant.apart;
}

pub returns-clause-apart : goal.returns-clause-apart
returns-clause-apart c = apart_without (is_at (nat_cmp c.args.number)) c.self.inside.first c.self.inside.others.entries c.remove.new.self.entries c.remove.ensures.entries c.remove.ensures.ordered c.self.invariant.apart
