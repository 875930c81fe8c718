use Rattle.std.proofs.Common.{sym, ap, ◌∷◌, List, ℕ}
use Rattle.tab_etf.proofs.WritingLemmas.{writes_as}
use Rattle.tab_etf.proofs.CanonLemmas.{length_short}
use Rattle.tab_etf.proofs.spelling.put_tagged.Goals as goal

pub returns-then-n-lt4294967295 : goal.returns-then-n-lt4294967295
returns-then-n-lt4294967295 g c = writes_as c.put_four.ensures (ap (λ (s : List ℕ). c.args.tag ∷ s) (sym (length_short c.args.n c.if-n-lt4294967295.true)))
