use Rattle.std.proofs.Common.{sym, ◌∙◌}
use Rattle.tab_locks.proofs.Holdings.{again}
use Rattle.tab_locks.proofs.holders.Holders.add.Goals as goal

pub returns-then-has-clause-ok : goal.returns-then-has-clause-ok
returns-then-has-clause-ok c = again (c.args.age, c.args.write) c.args.self.now (sym c.has.ensures ∙ c.if-has.true)
