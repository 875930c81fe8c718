use Rattle.std.proofs.Common.{refl, ap}
use Rattle.tab_model.specs.Outcome.{Ask}
use Rattle.tab_model.specs.declared.ask.Ask.TheVariants.{Do as DoCommand}
use Rattle.tab_model.specs.declared.data.Command.{Command}
use Rattle.tab_model.specs.declared.data.Command.TheVariants as command
use Rattle.tab_core.specs.Parts.{state_with}
use Rattle.tab_core.proofs.StepsLemmas.{as_made, command_makes, quiet, ok_sees, err_stays, free_sees}
use Rattle.tab_core.proofs.Core.command.Goals as goal

-- what is asked, by the command
abbrev asked : Command → Ask
asked k = DoCommand k

pub command-requires : goal.command-requires
command-requires g c = record { quiet = quiet c.args.command c.in_default.not-Commit c.in_default.not-Schema c.in_default.not-Subscribe c.in_default.not-Unsubscribe; kept = c.self.invariant }

pub returns-in-Commit : goal.returns-in-Commit
returns-in-Commit g c =
    let all = c.commit.ensures in
    let made = as_made c.args.self.now _ _ c.args.session _ (DoCommand command.Commit) _ _ (ap asked c.in-Commit.is) refl refl (all.done, all.free, all.err) in
    record { done = made.0; free = made.1; err = made.2 }

pub returns-in-Schema : goal.returns-in-Schema
returns-in-Schema g c =
    let all = c.schema.ensures in
    let made = as_made c.args.self.now _ _ c.args.session _ (DoCommand (command.Schema c.in-Schema.schema)) _ _ (ap asked c.in-Schema.is) refl refl (all.done, all.free, all.err) in
    record { done = made.0; free = made.1; err = made.2 }

pub returns-in-Subscribe : goal.returns-in-Subscribe
returns-in-Subscribe g c =
    let all = c.subscribe.ensures in
    let made = as_made c.args.self.now _ _ c.args.session _ (DoCommand (command.Subscribe c.in-Subscribe.table c.in-Subscribe.level c.in-Subscribe.dump)) _ _ (ap asked c.in-Subscribe.is) refl refl (all.done, all.free, all.err) in
    record { done = made.0; free = made.1; err = made.2 }

pub returns-in-Unsubscribe : goal.returns-in-Unsubscribe
returns-in-Unsubscribe g c =
    let all = c.unsubscribe.ensures in
    let made = as_made c.args.self.now _ _ c.args.session _ (DoCommand (command.Unsubscribe c.in-Unsubscribe.table c.in-Unsubscribe.level)) _ _ (ap asked c.in-Unsubscribe.is) refl refl (all.done, all.free, all.err) in
    record { done = made.0; free = made.1; err = made.2 }

pub returns-in_default : goal.returns-in_default
returns-in_default g c =
    let σ = state_with c.self.inside.machine in
    let τ = state_with c.command.new.self in
    let ρ = c.args.self.now in
    let n = c.args.session in
    let a : Ask = DoCommand c.args.command in
    let all = c.command.ensures in
    let calm = quiet c.args.command c.in_default.not-Commit c.in_default.not-Schema c.in_default.not-Subscribe c.in_default.not-Unsubscribe in
    record {
      done = ok_sees σ τ ρ n a _ c.command.result c.self.view_is (λ s h. command_makes σ τ n s c.args.command calm h) all.done;
      free = λ h. free_sees σ ρ n a c.self.view_is h all.free all.told;
      err = err_stays σ τ ρ c.command.result c.self.view_is all.err;
    }
