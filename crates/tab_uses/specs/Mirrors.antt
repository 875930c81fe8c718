-- What a mirror has after several terms.
use Rattle.std.specs.Prelude.{List, Option, fold}
use Rattle.tab_term.specs.View.{term}
use Rattle.tab_term.specs.declared.term.Term.{Term}
use Rattle.tab_model.specs.Tables.{Rows}
use Rattle.tab_events.specs.Mirrors.{Held, fed}

-- a mirror's rows after these terms, one after another
abbrev pub rows_after : Held → List Term → Option Rows
rows_after m told = fold (λ rows x. (fed m.table m.kind rows (term x)).0) m.rows told
