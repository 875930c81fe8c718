use Rattle.std.proofs.Common.{ap, sym, ◌∙◌}
use Rattle.std.specs.Prelude.{Some}
use Rattle.tab_journal.specs.Survivors.{changed}
use Rattle.tab_journal.proofs.SurvivorLemmas.{more_falls, more_standing}
use Rattle.tab_journal.proofs.survivors.Survivors.operate.Goals as goal

pub invariant_of-self-in-Some : goal.invariant_of-self-in-Some
invariant_of-self-in-Some c =
    more_falls c.self.inside.updates.items c.push.new.self.items c.in-Some.update c.self.inside.begun.items c.in_ok-push-in-Some.ensures.items c.self.invariant

pub returns-in_ok-push-in-Some : goal.returns-in_ok-push-in-Some
returns-in_ok-push-in-Some c =
    more_standing c.self.inside.updates.items c.push.new.self.items c.in-Some.update c.self.inside.begun.items c.in_ok-push-in-Some.ensures.items c.self.invariant
    ∙ ap (λ s. changed s (Some c.in-Some.update)) c.self.view_is
    ∙ ap (changed c.args.self.now) (sym c.in-Some.is ∙ c.in_ok-update.ensures)
