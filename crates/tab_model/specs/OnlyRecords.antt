-- A record as the only one of its key.
use Rattle.std.specs.Prelude.{◌≡◌, [], ◌∷◌}
use Rattle.tab_term.specs.Data.{PlainTerm, none}
use Rattle.tab_term.specs.View.{term}
use Rattle.tab_term.specs.declared.term.Term.{Term}
use Rattle.tab_term.specs.declared.term.Term.TheVariants as is
use Rattle.tab_lists.specs.ByKey.{Entry}
use Rattle.tab_model.specs.Names.{terms_list}
use Rattle.tab_model.specs.Shapes.{term_value}
use Rattle.tab_model.specs.Tables.{Rows, key}

-- a key has just this record
pub record IsOnly (row : PlainTerm) (e : Entry) : Type 0 where
  pub key : term e.0 ≡ key row
  pub only : terms_list e.1 ≡ row ∷ []

-- the first record; the empty list where there is none
abbrev pub first_record : Rows → Term
first_record [] = is.List none
first_record (x ∷ xs) = term_value x

-- the first record of a key
abbrev pub record_in : Entry → Term
record_in e = first_record (terms_list e.1)
