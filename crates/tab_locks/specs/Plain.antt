-- A lock of the program as definitions speak of it.
use Rattle.std.specs.Prelude.{Bool, true, false}
use Rattle.tab_term.specs.View.{term}
use Rattle.tab_model.specs.declared.data.Mode.{Mode}
use Rattle.tab_model.specs.declared.data.Mode.TheVariants.{Read, Write}
use Rattle.tab_model.specs.declared.data.What.{What}
use Rattle.tab_model.specs.declared.data.What.TheVariants as what
use Rattle.tab_model.specs.declared.data.Lock as code
use Rattle.tab_model.specs.Locks.{Part, All, Key, Lock, lock}

-- the mode is a write lock's
abbrev pub is_write : Mode → Bool
is_write Read = false
is_write Write = true

-- all of a table, or a key of it, as definitions speak of it
abbrev pub part_of : What → Part
part_of what.All = All
part_of (what.Key k) = Key (term k)

-- a lock of the program as definitions speak of it
abbrev pub lock_of : code.Lock → Lock
lock_of l = lock l.table (part_of l.what) (is_write l.mode)
