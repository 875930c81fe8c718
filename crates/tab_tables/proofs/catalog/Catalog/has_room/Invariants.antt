use Rattle.std.proofs.Common.{◌≡◌, nat_lt, length}
use Rattle.tab_tables.proofs.catalog.Catalog.has_room.Given as goal

-- what is left of the tables, against the room that is left
abbrev pub invariant-loop-table : goal.invariant-loop-table
invariant-loop-table l = nat_lt (length l._table-iterator) l.room ≡ nat_lt (length l.self) l.limit
