use Rattle.std.proofs.Common.{refl}
use Rattle.tab_map.proofs.entry.Sought.new.Goals as goal

pub invariant_of-result : goal.invariant_of-result
invariant_of-result g c = c.abbreviated.ensures

pub returns : goal.returns
returns g c = refl
