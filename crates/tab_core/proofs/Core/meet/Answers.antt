use Rattle.tab_core.specs.Parts.{parts_of}
use Rattle.tab_core.proofs.MarksLemmas.{met_seen}
use Rattle.tab_core.proofs.Core.meet.Goals as goal

pub returns-clause-met : goal.returns-clause-met
returns-clause-met g c = met_seen (parts_of c.self.inside.machine) c.args.self.now c.self.view_is c.args.session _ _ _ _ c.meet.ensures.met
