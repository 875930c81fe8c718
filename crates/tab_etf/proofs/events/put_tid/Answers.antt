use Rattle.std.proofs.Common.{codes, pos, sym}
use Rattle.tab_term.specs.Data.{atom, int}
use Rattle.tab_etf.proofs.OutlinesLemmas.{pair_canon}
use Rattle.tab_etf.proofs.WritingLemmas.{writes_as, writes_then}
use Rattle.tab_etf.proofs.events.put_tid.Goals as goal

pub returns : goal.returns
returns g c = writes_as (writes_then c.put_word.ensures c.put_age.ensures) (sym (pair_canon (atom (codes "tid")) (int (pos c.args.age))))
