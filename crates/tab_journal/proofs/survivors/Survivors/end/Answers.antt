use Rattle.std.proofs.Common.{ap, ◌∙◌}
use Rattle.tab_journal.specs.Survivors.{ended}
use Rattle.tab_journal.proofs.SurvivorLemmas.{end_standing}
use Rattle.tab_journal.proofs.survivors.Survivors.end.Goals as goal

pub returns-in-Some : goal.returns-in-Some
returns-in-Some c =
    end_standing c.self.inside.updates.items c.truncate.new.self.items c.self.inside.begun.items c.pop_front.new.self.items c.in-Some.count c.in-Some.ensures.items c.truncate.ensures.items c.self.invariant
    ∙ ap ended c.self.view_is
