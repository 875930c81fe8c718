use Rattle.std.proofs.Common.{arith, codes, pos}
use Rattle.tab_term.specs.Data.{atom, int}
use Rattle.tab_etf.proofs.OutlinesLemmas.{pair_length}
use Rattle.tab_etf.proofs.events.tid_len.Goals as goal

pub returns : goal.returns
returns c = omega (arith, pair_length (atom (codes "tid")) (int (pos c.args.age)), c.age_len.ensures, c.word_len.ensures.value, c.saturating_add.ensures)
