use Rattle.std.proofs.Common.{◌≡◌, drop}
use Rattle.tab_model.specs.Tables.{rows_after}
use Rattle.tab_rows.specs.Former.{all_put_back}
use Rattle.tab_rows.proofs.rows.Rows.make_all.Given as goal

-- the changes that are left lead to the same rows, and what is kept back to those before
abbrev pub invariant-loop-update : goal.invariant-loop-update
invariant-loop-update l = record {
  kind : l.self.0 ≡ l.fn.self.0;
  made : rows_after l.fn.self.0 l.self.1 (drop l.update-index l.updates) ≡ rows_after l.fn.self.0 l.fn.self.1 l.updates;
  kept : all_put_back l.self l.former.items ≡ all_put_back l.fn.self l.fn.former.items;
}
