use Rattle.std.proofs.Common.{◌≡◌, drop}
use Rattle.std.specs.List.{list_all}
use Rattle.tab_term.specs.View.{terms}
use Rattle.tab_model.specs.Names.{terms_list}
use Rattle.tab_events.specs.Marks.{is_row_of}
use Rattle.tab_events.proofs.marks.are_rows_of.Given as goal

abbrev pub invariant-loop-row : goal.invariant-loop-row
invariant-loop-row l = list_all (is_row_of l.table) (terms_list (terms (drop l.row-index l.records))) ≡ list_all (is_row_of l.table) (terms_list (terms l.records))
