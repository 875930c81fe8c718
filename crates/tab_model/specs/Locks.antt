-- Locks: what an operation needs, which conflict, which cover (Mnesia User's Guide, "Locking"; that an index_read locks the
-- table, and a pattern its key: Mnesia Reference Manual, index_read/3 and match_object/1).
use Rattle.std.specs.Prelude.{◌≡◌, ℕ, List, [], ◌∷◌, Bool, true, false, not, ◌&&◌, ◌||◌, if◌then◌else◌}
use Rattle.std.specs.List.{list_any}
use Rattle.std.specs.Str.{bytes_eq}
use Rattle.tab_term.specs.Same.{same}
use Rattle.tab_term.specs.View.{term}
use Rattle.tab_term.specs.Data.{PlainTerm}
use Rattle.tab_model.specs.declared.data.Operation.{Operation}
use Rattle.tab_model.specs.declared.data.Operation.TheVariants as op
use Rattle.tab_model.specs.declared.data.Move.{Move}
use Rattle.tab_model.specs.declared.data.Move.TheVariants.{Do, Open, Close, Undo}
use Rattle.tab_model.specs.Tables.{key}
use Rattle.tab_term.specs.Pattern.{has_wildcard}
use Rattle.tab_model.specs.Operations.{table_of}

-- a lock as definitions speak of it: keys are terms
-- what a lock is on: a whole table, or one key of it
pub data Part : Type 0 where
  All : Part
  Key : PlainTerm → Part

-- a lock on a whole table or on one key of it; a write lock, or else a read lock
pub record Lock : Type 0 where
  pub table : List ℕ
  pub part : Part
  pub write : Bool

-- the lock on a part of a table, a write lock where w is true
abbrev pub lock : List ℕ → Part → Bool → Lock
lock t p w = record { table = t; part = p; write = w }

-- the lock that an operation asks for, before it looks at the table
abbrev pub needs : Operation → Lock
needs (op.Read t k) = lock t (Key (term k)) false
needs (op.ReadForWrite t k) = lock t (Key (term k)) true
needs (op.Write r) = lock (table_of (op.Write r)) (Key (key (term r))) true
needs (op.Delete t k) = lock t (Key (term k)) true
needs (op.DeleteObject r) = lock (table_of (op.DeleteObject r)) (Key (key (term r))) true
needs (op.IndexRead t x a) = lock t All false
needs (op.MatchObject p) = lock (table_of (op.MatchObject p)) (if has_wildcard (key (term p)) then All else Key (key (term p))) false
needs (op.AllKeys t) = lock t All false
needs (op.ReadLockTable t) = lock t All false
needs (op.WriteLockTable t) = lock t All true

-- the locks of a transaction: those of all its operations, also of failed and undone ones
abbrev pub locks_of : List Move → List Lock
locks_of [] = []
locks_of (Do o ∷ xs) = needs o ∷ locks_of xs
locks_of (Open ∷ xs) = locks_of xs
locks_of (Close ∷ xs) = locks_of xs
locks_of (Undo ∷ xs) = locks_of xs

-- two parts of one table have a key in common
abbrev pub meets : Part → Part → Bool
meets All b = true
meets (Key j) All = true
meets (Key j) (Key k) = same j k

-- of locks of different owners
abbrev pub conflict : Lock → Lock → Bool
conflict a b = bytes_eq a.table b.table && ((a.write || b.write) && meets a.part b.part)

-- a part has all of another
abbrev pub contains : Part → Part → Bool
contains All b = true
contains (Key j) All = false
contains (Key j) (Key k) = same j k

-- a lock of the same owner that serves for this one
abbrev pub covers : Lock → Lock → Bool
covers l a = bytes_eq a.table l.table && ((a.write || not l.write) && contains a.part l.part)

-- no lock of the one list conflicts with one of the other
abbrev pub Apart : List Lock → List Lock → Type 0
Apart ls ms = list_any (λ a. list_any (conflict a) ms) ls ≡ false
