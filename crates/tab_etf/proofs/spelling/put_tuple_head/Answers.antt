use Rattle.std.proofs.Common.{sym}
use Rattle.tab_etf.proofs.WritingLemmas.{writes_as, writes_then}
use Rattle.tab_etf.proofs.CanonLemmas.{tuple_short, tuple_long}
use Rattle.tab_etf.proofs.spelling.put_tuple_head.Goals as goal

pub returns-then-n-lt256 : goal.returns-then-n-lt256
returns-then-n-lt256 g c = writes_as c.put_two.ensures (sym (tuple_short c.args.n c.if-n-lt256.true))

pub returns-else-n-lt256 : goal.returns-else-n-lt256
returns-else-n-lt256 g c =
    writes_as (writes_then c.put.ensures c.put_length.ensures) (sym (tuple_long c.args.n c.if-n-lt256.false))
