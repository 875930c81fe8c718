use Rattle.std.proofs.Common.{subst, List}
use Rattle.tab_term.specs.View.{term}
use Rattle.tab_locks.specs.Members.{Drops}
use Rattle.tab_locks.specs.Spots.{KeySpot, key_spots, stands_on_key}
use Rattle.tab_locks.proofs.tied_keys.TiedKeys.remove.Goals as goal

pub returns : goal.returns
returns c = subst (λ (v : List KeySpot). Drops (stands_on_key (term c.args.key) (c.args.age, c.args.write)) v (key_spots c.take.new.holders.entries)) c.self.view_is c.take.ensures.dropped
