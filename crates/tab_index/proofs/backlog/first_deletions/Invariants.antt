use Rattle.std.proofs.Common.{◌≡◌, true}
use Rattle.std.specs.List.{list_all}
use Rattle.tab_term.specs.View.{term}
use Rattle.tab_model.specs.Tables.{has_key}
use Rattle.tab_index.specs.Indexed.{deletes_one}
use Rattle.tab_index.proofs.backlog.first_deletions.Given as goal

-- the records that are left have the key
abbrev pub invariant-loop-record : goal.invariant-loop-record
invariant-loop-record l = record {
  deletes : list_all (deletes_one (term l.key)) l.parts.items ≡ true;
  left : list_all (has_key (term l.key)) l.record-iterator ≡ true;
}
