-- A payload that is read again.
use Rattle.std.proofs.Common.{◌≡◌, ℕ, List, sym, ap, ◌∙◌}
use Rattle.std.specs.Prelude.{Result, Ok}
use Rattle.tab_term.specs.Data.{PlainTerm}
use Rattle.tab_etf.specs.Reading.{whole}
use Rattle.tab_etf.specs.declared.fault.Stop.{Stop}
use Rattle.tab_model.specs.declared.data.Command.{Command}
use Rattle.tab_model.specs.declared.data.Command.TheVariants as command
use Rattle.tab_model.specs.declared.data.Part.{Part}
use Rattle.tab_proto.specs.Reading.{Spells}
use Rattle.tab_proto.proofs.RequestsApart.{commands_apart}
use Rattle.tab_server.specs.Rereading.{GivesParts, parts_in}

abbrev term_in : PlainTerm → Result PlainTerm Stop → PlainTerm
term_in else_this (Ok t) = t
term_in else_this r = else_this

pub same_parts : (payload : List ℕ) (parts again : List Part) (c : Command) (t : PlainTerm) → whole payload ≡ Ok t → Spells c t → parts_in c ≡ again → GivesParts payload parts → again ≡ parts
same_parts payload parts again c t read spelled is given =
    let known = given.1.1 in
    let said = given.1.2 in
    sym is ∙ ap parts_in (commands_apart c (command.OneShot parts given.0) spelled.1 said.1 (spelled.0 ∙ ap (term_in t) (sym read ∙ known) ∙ sym said.0))
