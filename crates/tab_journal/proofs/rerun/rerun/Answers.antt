use Rattle.std.proofs.Common.{arith}
use Rattle.tab_journal.proofs.AuditLemmas.{lengths_told, runs_end}
use Rattle.tab_journal.proofs.rerun.rerun.Goals as goal

pub returns-then-moves-told : goal.returns-then-moves-told
returns-then-moves-told c = lengths_told c.args.tables.now c.args.age c.args.moves.now c.args.told.now c.if-moves-told.true

pub returns : goal.returns
returns c =
    let done = c.loop-place-test.false in
    let same = c.if-moves-told.false in
    runs_end c.args.tables.now c.args.age c.args.moves.now c.args.told.now c.loop-place.run c.loop-place.place c.loop-place.invariant c.into_tables.result
    (omega (arith, done, same)) (omega (arith, done, same)) c.into_tables.ensures
