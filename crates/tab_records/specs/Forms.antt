-- The records of a key, however they stand.
use Rattle.std.specs.Prelude.{List, [], ◌∷◌, ◌++◌, if◌then◌else◌}
use Rattle.std.specs.List.{list_any}
use Rattle.tab_term.specs.Same.{same}
use Rattle.tab_term.specs.View.{term, terms}
use Rattle.tab_term.specs.Data.{PlainTerm, PlainTerms, none, one_more, plain_terms, terms_list}
use Rattle.tab_records.specs.declared.records.Form.{Form}
use Rattle.tab_records.specs.declared.records.Form.TheVariants as form
use Rattle.tab_records.specs.declared.iter.Left.{Left}
use Rattle.tab_records.specs.declared.iter.Left.TheVariants as left
use Rattle.tab_records.specs.Numbers.{records_in}

-- one record, or several in the order of their numbers
abbrev pub records_of : Form → PlainTerms
records_of (form.One t) = one_more (term t) none
records_of (form.Many ts) = plain_terms ts

-- records with one more behind them, unless it is among them
abbrev pub with_one : PlainTerms → PlainTerm → PlainTerms
with_one ts row = if list_any (same row) (terms_list ts) then ts else plain_terms (terms_list ts ++ row ∷ [])

-- the first record alone, where there is one
abbrev pub first_of : PlainTerms → List PlainTerm
first_of none = []
first_of (one_more t ts) = t ∷ []

-- the records that a walk has not come to
abbrev pub records_left : Left → List PlainTerm
records_left (left.Slice ts) = terms_list (terms ts.now)
records_left (left.Numbered es) = records_in es
