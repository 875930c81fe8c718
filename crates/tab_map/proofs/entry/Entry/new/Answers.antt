use Rattle.tab_map.proofs.entry.Entry.new.Goals as goal

pub invariant_of-result : goal.invariant_of-result
invariant_of-result g c = rw c.in_ok-new.ensures.ok c.abbreviated-abbreviation.ensures

pub returns : goal.returns
returns g c = c.in_ok-new.ensures.ok
