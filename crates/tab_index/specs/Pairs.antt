-- Pairs of a value and a key, of which the entries of an index are made.
use Rattle.std.specs.Prelude.{◌≡◌, ◌-◌, ℕ, Bool, false, ◌&&◌, List, [], ◌∷◌, ◌++◌}
use Rattle.std.specs.List.{count_by, list_any}
use Rattle.std.specs.Ordering.{on, is_lt}
use Rattle.std.specs.declared.cmp.Ordering.{Ordering}
use Rattle.tab_term.specs.declared.term.Term.{Term}
use Rattle.tab_term.specs.Canon.{canon}
use Rattle.tab_term.specs.Data.{PlainTerm}
use Rattle.tab_term.specs.Order.{bytes_cmp, term_cmp}
use Rattle.tab_term.specs.Same.{same}
use Rattle.tab_term.specs.View.{term}
use Rattle.tab_map.specs.Entries.{Ascends}
use Rattle.tab_map.specs.KeyList.{KeysAscend}
use Rattle.tab_model.specs.Tables.{key}
use Rattle.tab_model.specs.WholeTables.{element}
use Rattle.tab_index.specs.FurtherOf.{KeyCounts, AreFilled, further_of}
use Rattle.tab_index.specs.IndexOf.{Entry, has_pair, IsFilled, IsWith}

-- a value and a key
abbrev pub Pair : Type 0
Pair = PlainTerm × PlainTerm

-- a record's value at a position, and its key
abbrev pub pair_of : ℕ → PlainTerm → Pair
pair_of p r = (element p r, key r)

-- the order of pairs by their values
abbrev pub value_cmp : Pair → Pair → Ordering
value_cmp = on (λ q. canon q.0) bytes_cmp

-- whether a value and a key are one of these pairs
abbrev pub are_paired : List Pair → PlainTerm → PlainTerm → Bool
are_paired qs x k = list_any (λ q. same x q.0 && same k q.1) qs

-- a value and a key stand in entries exactly where they are one of these pairs
pub record HasPairs (qs : List Pair) (es : List Entry) : Type 0 where
  pub pairs : (v k : Term) → has_pair es v k ≡ are_paired qs (term v) (term k)
  pub filled : IsFilled es

-- a value and a key have a count of these pairs, less the first
pub record CountsPairs (qs : List Pair) (ms : List KeyCounts) : Type 0 where
  pub counts : (v k : Term) → further_of ms v k ≡ count_by (λ q. same (term v) q.0 && same (term k) q.1) qs - 1
  pub filled : AreFilled ms

-- the last entry, if there is one, has such a value, and its keys ascend
abbrev pub EndsWith : List Entry → (PlainTerm → Type 0) → Type 0
EndsWith es P = (before : List Entry) (e : Entry) → es ≡ before ++ e ∷ [] → P (term e.0) × KeysAscend term_cmp e.1

-- entries in the order of their values, of which the last is not above this value
pub record EndsUpTo (es : List Entry) (x : PlainTerm) : Type 0 where
  pub ascends : Ascends term_cmp es
  pub last : EndsWith es (λ y. is_lt (bytes_cmp (canon x) (canon y)) ≡ false)

-- entries with one pair more, whose value is the last
pub record IsNext (es fs : List Entry) (q : Pair) : Type 0 where
  pub with_pair : IsWith es fs q.0 q.1
  pub ascends : Ascends term_cmp fs
  pub last : EndsWith fs (λ y. y ≡ q.0)
