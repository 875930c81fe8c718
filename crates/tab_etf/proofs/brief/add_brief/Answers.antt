use Rattle.std.proofs.Common.{sym}
use Rattle.tab_etf.proofs.BriefsLemmas.{adds_as, adds_then}
use Rattle.tab_etf.proofs.OutlinesLemmas.{pair_canon}
use Rattle.tab_etf.proofs.brief.add_brief.Goals as goal

pub returns-in-Two : goal.returns-in-Two
returns-in-Two c =
    rw c.in-Two.is (adds_as (adds_then c.add_two.ensures (adds_then c.add_token-in-Two.ensures c.add_token-in-Two-2.ensures)) (sym (pair_canon _ _)))
