-- The key of a pattern whose answers all have it (that such a pattern's lock is its key's: Mnesia Reference Manual,
-- match_object/1).
use Rattle.std.specs.Prelude.{Option, Some, None, if◌then◌else◌}
use Rattle.tab_term.specs.Data.{PlainTerm, int, atom, tuple, list, bin, map, PlainTerms, none, one_more}
use Rattle.tab_term.specs.Pattern.{has_wildcard}

-- the second of these elements, where there is one and it has no '_' outside of maps
abbrev pub bound_second : PlainTerms → Option PlainTerm
bound_second none = None
bound_second (one_more t none) = None
bound_second (one_more t (one_more k ts)) = if has_wildcard k then None else Some k

-- the second element of a tuple, where no '_' stands in it
abbrev pub bound_key : PlainTerm → Option PlainTerm
bound_key (tuple ts) = bound_second ts
bound_key (int z) = None
bound_key (atom s) = None
bound_key (list ts) = None
bound_key (bin b) = None
bound_key (map ps) = None
