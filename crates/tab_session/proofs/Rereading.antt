-- A payload that is read again.
use Rattle.std.proofs.Common.{◌≡◌, ℕ, List, sym, ap, ◌∙◌}
use Rattle.std.specs.Prelude.{Result, Ok}
use Rattle.tab_term.specs.Data.{PlainTerm}
use Rattle.tab_etf.specs.Reading.{whole}
use Rattle.tab_etf.specs.declared.fault.Stop.{Stop}
use Rattle.tab_model.specs.declared.ask.Ask.TheVariants.{Do as DoCommand}
use Rattle.tab_model.specs.declared.data.Command.TheVariants as command
use Rattle.tab_model.specs.declared.data.Part.{Part}
use Rattle.tab_proto.specs.Requests.{Request, request_term, IsRequest}
use Rattle.tab_proto.proofs.RequestsApart.{requests_apart}
use Rattle.tab_session.specs.Rereading.{GivesParts, parts_in}

abbrev term_in : PlainTerm → Result PlainTerm Stop → PlainTerm
term_in else_this (Ok t) = t
term_in else_this r = else_this

pub same_parts : (payload : List ℕ) (parts again : List Part) (session : ℕ) (r : Request) (t : PlainTerm) → whole payload ≡ Ok t → request_term session r ≡ t → IsRequest r → parts_in r ≡ again → GivesParts payload parts → again ≡ parts
same_parts payload parts again session r t read spelled formed is (retries, asked) =
    let one = requests_apart session asked.session r (DoCommand (command.OneShot parts retries)) formed asked.formed (spelled ∙ ap (term_in t) (sym read ∙ asked.read) ∙ sym asked.spelled) in
    sym is ∙ ap parts_in one.1
