use Rattle.std.proofs.Common.{◌∙◌, IfOk, sym, ap, map, subst}
use Rattle.clap.specs.Kinds.{or_else}
use Rattle.clap.specs.Words.{App, FailsBy, HasKind, fault_of, is_simple, is_simple_and_free, subcommand_of}
use Rattle.tab_words.specs.Asked.{IsAskedBy, serve_fault}
use Rattle.tab_words.specs.CommandLine.{command_line}
use Rattle.tab_words.proofs.Reading.{first_kind, handed_on}
use Rattle.tab_words.proofs.WorkedLines.{line_is_simple, line_is_free}
use Rattle.tab_words.proofs.parsing.words.Goals as goal

pub returns-in_err-matches-clause-fails : goal.returns-in_err-matches-clause-fails
returns-in_err-matches-clause-fails g c =
    let line = c.in_ok-command.ensures in
    let fault = c.in_err-matches.ensures.kinds (ap is_simple_and_free line ∙ line_is_free) in
    let kinds = subst (λ (a : App). HasKind (fault_of a (map g.S.AsStr.text c.args.words.now)) c.in_err-matches.field-0.0) line fault in
    handed_on _ c.in_err-matches.field-0.0 c.from_residual-in_err-matches.result c.from_residual-in_err-matches.ensures.1 (first_kind _ (serve_fault (subcommand_of command_line (map g.S.AsStr.text c.args.words.now))) c.in_err-matches.field-0.0 kinds)

pub returns-clause-asked : goal.returns-clause-asked
returns-clause-asked g c =
    let line = c.in_ok-command.ensures in
    let found = (c.in_ok-matches.ensures.matches (ap is_simple line ∙ line_is_simple)).1 ∙ ap (λ a. subcommand_of a (map g.S.AsStr.text c.args.words.now)) line in
    subst (λ o. IfOk c.run_of.result (IsAskedBy o)) found c.run_of.ensures.asked

pub returns-clause-fails : goal.returns-clause-fails
returns-clause-fails g c =
    let line = c.in_ok-command.ensures in
    let found = (c.in_ok-matches.ensures.matches (ap is_simple line ∙ line_is_simple)).1 ∙ ap (λ a. subcommand_of a (map g.S.AsStr.text c.args.words.now)) line in
    let none = sym (ap (λ a. fault_of a (map g.S.AsStr.text c.args.words.now)) line) ∙ c.in_ok-matches.ensures.kinds (ap is_simple_and_free line ∙ line_is_free) in
    subst (λ kinds. FailsBy (or_else kinds (serve_fault (subcommand_of command_line (map g.S.AsStr.text c.args.words.now)))) c.run_of.result) (sym none)
    (subst (λ o. FailsBy (serve_fault o) c.run_of.result) found c.run_of.ensures.fails)
