-- Changes that are undone, by the former records of their keys.
use Rattle.std.specs.Prelude.{List, [], ◌∷◌}
use Rattle.tab_term.specs.Data.{PlainTerm}
use Rattle.tab_model.specs.declared.data.Kind.{Kind}
use Rattle.tab_rows.specs.Restored.{restored}

-- a key and its former records
abbrev pub AtKey : Type 0
AtKey = PlainTerm × List PlainTerm

-- the rows with the former records of a key put back
abbrev pub put_back : Kind × List PlainTerm → AtKey → Kind × List PlainTerm
put_back rows s = (rows.0, restored rows.1 s.0 s.1)

-- the rows with all of these put back, the last first
abbrev pub all_put_back : Kind × List PlainTerm → List AtKey → Kind × List PlainTerm
all_put_back rows [] = rows
all_put_back rows (s ∷ ss) = put_back (all_put_back rows ss) s
