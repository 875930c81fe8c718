use Rattle.tab_term.specs.Canon.{canon}
use Rattle.tab_etf.proofs.WritingLemmas.{writes_then}
use Rattle.tab_etf.proofs.answers.put_word.Goals as goal

pub returns : goal.returns
unfolding canon
returns g c = writes_then c.put.ensures c.put_atom.ensures
