-- What is asked of the locks that are held, and the same question in parts: by table, by part of it, by owner and mode.
use Rattle.std.specs.Prelude.{Bool, true, not, ◌&&◌, ◌||◌, ◌==◌, nat_lt}
use Rattle.std.specs.Str.{bytes_eq}
use Rattle.tab_model.specs.Locks.{Part, meets, contains}
use Rattle.tab_model.specs.Ages.{Owned, opposes, blocks, covers_own}
use Rattle.tab_locks.specs.Spots.{Holding}
use Rattle.tab_locks.specs.declared.question.Relation.{Relation}
use Rattle.tab_locks.specs.declared.question.Relation.TheVariants.{Meeting, Opposing, Blocking, Covering}

-- on the same table, and on all of it or on the same key
abbrev pub meets_at : Owned → Owned → Bool
meets_at r x = bytes_eq r.1.table x.1.table && meets r.1.part x.1.part

-- whether a held lock x meets request r, opposes it, blocks it or covers it, as the relation asks
abbrev pub asked : Relation → Owned → Owned → Bool
asked Meeting r x = meets_at r x
asked Opposing r x = opposes r x
asked Blocking r x = blocks r x
asked Covering r x = covers_own r x

-- at one part of one table, of owners and modes
abbrev pub fits : Relation → Holding → Holding → Bool
fits Meeting r x = true
fits Opposing r x = not (x.0 == r.0) && (r.1 || x.1)
fits Blocking r x = (not (x.0 == r.0) && (r.1 || x.1)) && not (nat_lt r.0 x.0)
fits Covering r x = (x.0 == r.0) && (x.1 || not r.1)

-- at one table, of parts
abbrev pub reaches : Relation → Part → Part → Bool
reaches Meeting a b = meets a b
reaches Opposing a b = meets a b
reaches Blocking a b = meets a b
reaches Covering a b = contains b a
