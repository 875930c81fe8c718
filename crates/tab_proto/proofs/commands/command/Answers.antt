use Rattle.std.proofs.Common.{◌≡◌, ap, sym, ◌∙◌, subst, true, false}
use Rattle.std.proofs.lemmas.Bool.{false≢true}
use Rattle.tab_term.specs.View.{term}
use Rattle.tab_proto.specs.Reading.{is_command_term, is_one_shot_term, FailsOnlyIf}
use Rattle.tab_proto.proofs.CommandTerms.{command_is_known}
use Rattle.tab_proto.proofs.commands.command.Goals as goal

pub returns-clause-only : goal.returns-clause-only
returns-clause-only c = λ asked formed spelled bad.
    let unknown = subst (FailsOnlyIf (is_command_term (term c.in-Ok.copy) ≡ false) (is_one_shot_term (term c.in-Ok.copy) ≡ true)) bad c.read_command.ensures.fails in
    false≢true (sym unknown ∙ ap (λ t. is_command_term (term t)) c.in-Ok.ensures ∙ ap is_command_term (sym spelled) ∙ command_is_known asked formed)
