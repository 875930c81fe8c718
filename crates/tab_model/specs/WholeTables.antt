-- What whole-table reads answer on rows in canonical order (Mnesia Reference Manual, index_read/3 and match_object/1; their
-- order is this project's own rule).
use Rattle.std.specs.Prelude.{ℕ}
use Rattle.std.specs.List.{filter}
use Rattle.tab_term.specs.Data.{PlainTerm}
use Rattle.tab_term.specs.Same.{same}
use Rattle.tab_term.specs.Pattern.{matches}
use Rattle.tab_model.specs.Tables.{Rows}
pub use Rattle.tab_term.specs.Tuples.{nth, element}

-- the records with a value at an indexed position (index_read/3)
abbrev pub index_read : Rows → ℕ → PlainTerm → Rows
index_read rows p x = filter (λ r. same (element p r) x) rows

-- the records that match a pattern (match_object/1)
abbrev pub match_object : Rows → PlainTerm → Rows
match_object rows p = filter (matches p) rows
