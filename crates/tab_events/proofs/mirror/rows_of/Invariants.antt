use Rattle.std.proofs.Common.{◌≡◌, drop, []}
use Rattle.tab_term.specs.View.{terms}
use Rattle.tab_model.specs.Names.{terms_list}
use Rattle.tab_events.specs.Mirrors.{put_all}
use Rattle.tab_events.proofs.mirror.rows_of.Given as goal

-- the rows so far, and what the records that are left make of them
abbrev pub invariant-loop-row : goal.invariant-loop-row
invariant-loop-row l = record {
  kind : l.rows.0 ≡ l.fn.kind;
  left : put_all l.fn.kind l.rows.1 (terms_list (terms (drop l.row-index l.records))) ≡ put_all l.fn.kind [] (terms_list (terms l.records));
}
