use Rattle.std.proofs.Common.{arith}
use Rattle.tab_etf.proofs.Magnitude.{too_large}
use Rattle.tab_etf.proofs.leaf.magnitude_of.Goals as goal

pub returns-then-m : goal.returns-then-m
returns-then-m c = omega (arith, c.if-m.true, too_large c.args.bytes.now c.loop-i.i c.loop-i.m c.loop-i-test.true c.loop-i.invariant.0 c.loop-i.invariant.1)
