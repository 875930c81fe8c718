-- The command that a payload is, and the parts of a one-shot in it (this project's own form).
use Rattle.std.specs.Prelude.{◌≡◌, ℕ, List, [], Ok}
use Rattle.tab_term.specs.Data.{PlainTerm}
use Rattle.tab_etf.specs.Reading.{whole}
use Rattle.tab_model.specs.declared.data.Command.{Command}
use Rattle.tab_model.specs.declared.data.Command.TheVariants as command
use Rattle.tab_model.specs.declared.data.Part.{Part}
use Rattle.tab_proto.specs.Reading.{Spells}

-- the payload is the term of this command
abbrev pub IsSpelledBy : List ℕ → Command → Type 0
IsSpelledBy payload c = (t : PlainTerm) × (whole payload ≡ Ok t) × Spells c t

-- the parts of a one-shot; no other command has any
abbrev pub parts_in : Command → List Part
parts_in (command.OneShot parts retries) = parts
parts_in c = []

-- the payload is a one-shot of these parts
abbrev pub GivesParts : List ℕ → List Part → Type 0
GivesParts payload parts = (retries : ℕ) × IsSpelledBy payload (command.OneShot parts retries)
