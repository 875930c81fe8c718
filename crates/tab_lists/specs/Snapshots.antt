-- A table as a transaction sees it (how a transaction's writes are seen by its reads: Mnesia User's Guide, "Transaction
-- Properties").
use Rattle.std.specs.Prelude.{List}
use Rattle.tab_term.specs.declared.term.Term.{Term}
use Rattle.tab_term.specs.Data.{PlainTerm, terms_list}
use Rattle.tab_lists.specs.declared.snapshot.Snapshot.{Snapshot}
use Rattle.tab_lists.specs.declared.query.Scope.{Scope}
use Rattle.tab_lists.specs.declared.query.Scope.TheVariants as scope
use Rattle.tab_lists.specs.ByKey.{Entry, joined, merged, at_keys}

-- its keys with their records
abbrev pub entries_of : Snapshot → List Entry
entries_of s = merged s.own s.committed

-- those at these keys, and at each key that the transaction touched
abbrev pub entries_at : List Term → Snapshot → List Entry
entries_at ks s = merged s.own (at_keys ks s.committed)

-- the records that are looked at
abbrev pub records_in : Scope → List PlainTerm
records_in (scope.Key e) = terms_list e.1
records_in (scope.All s) = joined (entries_of s)
records_in (scope.Keys a) = joined (entries_at a.keys a.snapshot)
