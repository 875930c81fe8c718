-- The committed entries that a walk has not come to.
use Rattle.std.specs.Prelude.{List, [], ◌∷◌, Option, Some, None}
use denote.Ref.{Bor}
use Rattle.tab_term.specs.declared.term.Term.{Term}
use Rattle.tab_term.specs.Data.{PlainTerms}
use Rattle.tab_lists.specs.declared.merged.Left.{Left}
use Rattle.tab_lists.specs.declared.merged.Left.TheVariants as left
use Rattle.tab_lists.specs.ByKey.{Entry, at_keys}

-- a key with its records, where there is one, before the others; nothing where there is none
abbrev pub ahead : Option (Bor Term × Bor PlainTerms) → List Entry → List Entry
ahead None es = []
ahead (Some e) es = (e.0.now, e.1.now) ∷ es

-- all of a table's, or those at some keys
abbrev pub left_of : Left → List Entry
left_of (left.All es) = es
left_of (left.At a) = at_keys a.keys a.entries.now
