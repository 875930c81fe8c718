-- Records by the numbers of their writes.
use Rattle.std.specs.Prelude.{◌≡◌, ◌<◌, ℕ, List, [], ◌∷◌, length, false, if◌then◌else◌, Option, Some, None}
use Rattle.std.specs.List.{list_any}
use Rattle.std.specs.Ordering.{nat_cmp}
use Rattle.tab_term.specs.declared.term.Term.{Term}
use Rattle.tab_term.specs.View.{term}
use Rattle.tab_term.specs.Data.{PlainTerm}
use Rattle.tab_term.specs.Order.{term_cmp}
use Rattle.tab_term.specs.Same.{same}
use Rattle.tab_map.specs.Entries.{lookup, Ascends}

-- a number with its record, beside which it stands once more
abbrev pub Entry : Type 0
Entry = ℕ × (Term × ℕ)

-- the records in the order of their numbers
abbrev pub records_in : List Entry → List PlainTerm
records_in [] = []
records_in (e ∷ es) = term e.1.0 ∷ records_in es

-- the number of a record among these
abbrev pub number_of : PlainTerm → List Entry → Option ℕ
number_of row [] = None
number_of row (e ∷ es) = if same row (term e.1.0) then Some e.0 else number_of row es

-- each number is below this one
abbrev pub AllBelow : ℕ → List Entry → Type 0
AllBelow next [] = Unit {0}
AllBelow next (e ∷ es) = (e.0 < next) × AllBelow next es

-- no two records are equal
abbrev pub AreApart : List Entry → Type 0
AreApart [] = Unit {0}
AreApart (e ∷ es) = (list_any (same (term e.1.0)) (records_in es) ≡ false) × AreApart es

-- the numbers ascend to the next one, the records are apart and counted, and the number of each is found
pub record IsNumbered (es : List Entry) (numbers : List (Term × ℕ)) (next count : ℕ) : Type 0 where
  pub ascends : Ascends nat_cmp es
  pub sorted : Ascends term_cmp numbers
  pub apart : AreApart es
  pub below : AllBelow next es
  pub counted : count ≡ length es
  pub found : (row : Term) → lookup term_cmp row numbers ≡ number_of (term row) es

-- the entry of a record by its number
abbrev pub IsEntryOf : PlainTerm → ℕ → Entry → Type 0
IsEntryOf row number e = (e.0 ≡ number) × (term e.1.0 ≡ row) × (e.1.1 ≡ number)
