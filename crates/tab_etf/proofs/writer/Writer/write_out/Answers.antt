use Rattle.std.proofs.Common.{refl}
use Rattle.tab_etf.proofs.WritingLemmas.{hands_out}
use Rattle.tab_etf.proofs.writer.Writer.write_out.Goals as goal

pub returns-clause-writes : goal.returns-clause-writes
returns-clause-writes g c = record { same = refl; puts = hands_out _ _ _ _ _ _ _ _ _ c.hand_over-self.ensures c.as_slice.ensures.value c.clear.ensures }
