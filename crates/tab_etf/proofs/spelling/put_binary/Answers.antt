use Rattle.tab_etf.proofs.WritingLemmas.{writes_then}
use Rattle.tab_etf.proofs.spelling.put_binary.Goals as goal

pub returns : goal.returns
returns g c = writes_then c.put_tagged.ensures c.put.ensures
