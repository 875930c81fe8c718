use Rattle.std.proofs.Common.{subst}
use Rattle.tab_model.specs.Ages.{Ages, Rises}
use Rattle.tab_waitdie.proofs.Rising.{chain_up}
use Rattle.tab_waitdie.proofs.ages.no_chain_of_waits_leads_back.Goals as goal

pub returns : goal.returns
returns c = let P = λ (g : Ages). Rises g in λ a b bs. chain_up c.args.ages.now a b bs (subst P c.ages.view_is c.ages.invariant)
