use Rattle.std.proofs.Common.{◌≡◌, [], true, sym, ◌∙◌, subst}
use Rattle.tab_model.specs.declared.ask.Ask.TheVariants.{Do as DoCommand}
use Rattle.tab_model.specs.declared.data.Command.{Command}
use Rattle.tab_model.specs.Outcome.{Outcome, outcome}
use Rattle.tab_core.specs.Parts.{parts_of, state_of}
use Rattle.tab_core.specs.Steps.{is_told_for_none}
use Rattle.tab_core.proofs.Answering as answering
use Rattle.tab_core.proofs.MachineSteps as steps
use Rattle.tab_core.proofs.machine.Machine.idle_command.Goals as goal

pub returns-in_err-reply-in-TableInfo-clause-told : goal.returns-in_err-reply-in-TableInfo-clause-told
returns-in_err-reply-in-TableInfo-clause-told g c =
    let m = parts_of c.args.self.now in
    let n = c.args.session in
    let asked = sym c.into_value.ensures ∙ c.in-TableInfo.is in
    λ h. absurd (steps.differ _ (subst (λ (x : Command). is_told_for_none (state_of m) n (DoCommand x) ≡ true) asked h)
    (steps.info_told m n c.args.place c.requires.there c.requires.idle c.in-TableInfo.name c.in-TableInfo.item))

pub returns-in_ok-reply-in-TableInfo-clause-done : goal.returns-in_ok-reply-in-TableInfo-clause-done
returns-in_ok-reply-in-TableInfo-clause-done g c =
    let m = parts_of c.args.self.now in
    let n = c.args.session in
    let asked = sym c.into_value.ensures ∙ c.in-TableInfo.is in
    subst (λ (x : Command). (let o : Outcome = record { state = state_of m; reply = c.without_entry-in-TableInfo.result.reply; entry = c.without_entry-in-TableInfo.result.entry } in outcome (state_of m) [] n (DoCommand x) ≡ o)) (sym asked)
    (answering.info_here m n c.args.place c.requires.there c.requires.idle c.in-TableInfo.name c.in-TableInfo.item c.in_ok-reply-in-TableInfo.reply c.in_ok-reply-in-TableInfo.ensures
    ∙ answering.without_entry (state_of m) c.in_ok-reply-in-TableInfo.reply c.without_entry-in-TableInfo.result c.without_entry-in-TableInfo.ensures)
