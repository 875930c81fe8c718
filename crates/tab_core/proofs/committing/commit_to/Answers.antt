use Rattle.std.proofs.Common.{◌≡◌, subst}
use Rattle.std.specs.Prelude.{IfOk, IfSome}
use Rattle.tab_model.specs.Events.{change_all, surviving_changes}
use Rattle.tab_core.specs.Outermost.{CommitsBy}
use Rattle.tab_core.specs.Parts.{state_with}
use Rattle.tab_core.proofs.committing.commit_to.Goals as goal

pub commit_as-requires-clause-there : goal.commit_as-requires-clause-there
commit_as-requires-clause-there g c = (c.requires.ends.0, c.requires.ends.1.ends, subst (λ o. IfSome o (λ w. w ≡ change_all c.args.machine.now.catalog (surviving_changes c.requires.ends.0.moves c.requires.ends.0.told))) c.in-Some.is c.requires.ends.1.tables)

pub returns-in-None-clause-done : goal.returns-in-None-clause-done
returns-in-None-clause-done g c = λ t h. subst (λ o. IfOk c.commit.result (λ s. CommitsBy (state_with c.args.machine.now) c.args.session s (state_with c.commit.new.self) o)) h c.commit.ensures.done
