-- The request that a payload is, and the parts of a one-shot in it (this project's own form).
use Rattle.std.specs.Prelude.{◌≡◌, ℕ, List, [], Ok}
use Rattle.tab_term.specs.Data.{PlainTerm}
use Rattle.tab_etf.specs.Reading.{whole}
use Rattle.tab_model.specs.declared.ask.Ask.TheVariants.{Do as DoCommand}
use Rattle.tab_model.specs.declared.data.Command.TheVariants as command
use Rattle.tab_model.specs.declared.data.Part.{Part}
use Rattle.tab_proto.specs.Requests.{Request, request_term, IsRequest}

-- the payload is this request of a session
pub record IsAskedBy (payload : List ℕ) (asked : Request) : Type 0 where
  pub term : PlainTerm
  pub read : whole payload ≡ Ok term
  pub session : ℕ
  pub spelled : request_term session asked ≡ term
  pub formed : IsRequest asked

-- the parts of a one-shot; no other request has any
abbrev pub parts_in : Request → List Part
parts_in (DoCommand (command.OneShot parts retries)) = parts
parts_in r = []

-- the payload is a one-shot of these parts
abbrev pub GivesParts : List ℕ → List Part → Type 0
GivesParts payload parts = (retries : ℕ) × IsAskedBy payload (DoCommand (command.OneShot parts retries))
