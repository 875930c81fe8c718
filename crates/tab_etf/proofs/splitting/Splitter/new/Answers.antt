use Rattle.tab_etf.proofs.Cuts.{new_front}
use Rattle.tab_etf.proofs.splitting.Splitter.new.Goals as goal

pub invariant_of-result : goal.invariant_of-result
invariant_of-result c = rw (c.new.ensures.items, c.new-2.ensures.items) (λ e. new_front, tt)
