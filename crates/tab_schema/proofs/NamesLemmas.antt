-- Names that are read one after another.
use Rattle.std.proofs.Common.{ℕ, List, ◌++◌, Option, Some, None}

abbrev pub onto : List (List ℕ) → Option (List (List ℕ)) → Option (List (List ℕ))
onto seen None = None
onto seen (Some names) = Some (seen ++ names)
