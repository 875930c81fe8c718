-- Options of create_table as the program finds them, and what a refusal of them says.
use Rattle.std.specs.Prelude.{ℕ, List, [], ◌∷◌, Option, Some, None, if◌then◌else◌}
use Rattle.tab_term.specs.Data.{PlainTerm}
use Rattle.tab_term.specs.View.{term}
use Rattle.tab_term.specs.declared.term.Term.{Term}
use Rattle.tab_model.specs.Definitions.{option_name, is_named, value_in}
use Rattle.tab_schema.specs.declared.fault.DefFault.{DefFault}
use Rattle.tab_schema.specs.declared.fault.DefFault.TheVariants.{Bad, NoMemory}

-- a fault says what is wrong, but for one of memory
abbrev pub Blames : (PlainTerm → Type 0) → DefFault → Type 0
Blames P (Bad what) = P (term what)
Blames P NoMemory = Unit {0}

-- a term that is there or not
abbrev pub option_term : Option Term → Option PlainTerm
option_term None = None
option_term (Some t) = Some (term t)

-- the value of the first option of a name
abbrev pub first_value : List ℕ → List ℕ → List Term → Option PlainTerm
first_value tab n [] = None
first_value tab n (o ∷ os) = if is_named n (option_name tab (term o)) then Some (value_in (term o)) else first_value tab n os
