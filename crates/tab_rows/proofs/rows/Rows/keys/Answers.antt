use Rattle.std.proofs.Common.{List, ap, ap₂, ◌∙◌}
use Rattle.tab_lists.specs.ByKey.{filled_keys, merged}
use Rattle.tab_lists.specs.Snapshots.{entries_of}
use Rattle.tab_lists.specs.declared.snapshot.Snapshot.{Snapshot}
use Rattle.tab_model.specs.Names.{plain_terms}
use Rattle.tab_model.specs.Tables.{keys}
use Rattle.tab_rows.specs.Joined.{Entry}
use Rattle.tab_rows.proofs.KeysLemmas.{keys_of_entries}
use Rattle.tab_rows.proofs.rows.Rows.keys.Goals as goal

pub returns : goal.returns
returns c =
    c.from_keys.ensures
    ∙ ap (λ (s : Snapshot). plain_terms (filled_keys (entries_of s))) c.new-2.ensures
    ∙ ap₂ (λ (xs es : List Entry). plain_terms (filled_keys (merged xs es))) c.new.ensures c.in_ok-records.ensures
    ∙ ap plain_terms (keys_of_entries c.self.inside.records c.self.invariant.order)
    ∙ ap (λ v. plain_terms (keys v.1)) c.self.view_is
