-- How many further records of a key have a value, beside the first.
use Rattle.std.specs.Prelude.{◌≡◌, ◌≢◌, ◌≤◌, ◌+◌, ◌-◌, ℕ, List, [], ◌&&◌, Option, None, Some, if◌then◌else◌}
use Rattle.std.specs.List.{count_by}
use Rattle.tab_term.specs.declared.term.Term.{Term}
use Rattle.tab_term.specs.Data.{PlainTerm}
use Rattle.tab_term.specs.Order.{term_cmp}
use Rattle.tab_term.specs.Same.{same}
use Rattle.tab_term.specs.View.{term}
use Rattle.tab_map.specs.Entries.{lookup}
use Rattle.tab_model.specs.Tables.{Rows, at}
use Rattle.tab_index.specs.IndexOf.{Entry, has_pair, has_value, is_pair}

-- a count for each of some values
abbrev pub Counts : Type 0
Counts = List (Term × ℕ)

-- a key, and the counts of its values
abbrev pub KeyCounts : Type 0
KeyCounts = Term × Counts

-- the counts of a key, none where it has no entry
abbrev pub counts_in : Option Counts → Counts
counts_in None = []
counts_in (Some cs) = cs

-- a count, 0 where there is none
abbrev pub count_of : Option ℕ → ℕ
count_of None = 0
count_of (Some n) = n

-- how many further records of the key have the value
abbrev pub further_of : List KeyCounts → Term → Term → ℕ
further_of ms v k = count_of (lookup term_cmp v (counts_in (lookup term_cmp k ms)))

-- no count is 0
abbrev pub HasNoZero : Counts → Type 0
HasNoZero cs = (v : Term) → lookup term_cmp v cs ≢ Some 0

-- no key stands without counts, and no count is 0
pub record AreFilled (ms : List KeyCounts) : Type 0 where
  pub keys : (k : Term) → lookup term_cmp k ms ≢ Some []
  pub counts : (k : Term) → HasNoZero (counts_in (lookup term_cmp k ms))

-- the counts of one key with another count at one value
pub record HasCount (cs ds : Counts) (v : Term) (n : ℕ) : Type 0 where
  pub counts : (u : Term) → count_of (lookup term_cmp u ds) ≡ (if same (term u) (term v) then n else count_of (lookup term_cmp u cs))
  pub filled : HasNoZero cs → HasNoZero ds

-- with one more at a value and a key
pub record IsRaised (ms ns : List KeyCounts) (x k : PlainTerm) : Type 0 where
  pub counts : (v j : Term) → further_of ns v j ≡ (if is_pair x k v j then further_of ms v j + 1 else further_of ms v j)
  pub filled : AreFilled ms → AreFilled ns

-- with one less at a value and a key
pub record IsLowered (ms ns : List KeyCounts) (x k : PlainTerm) : Type 0 where
  pub counts : (v j : Term) → further_of ns v j ≡ (if is_pair x k v j then further_of ms v j - 1 else further_of ms v j)
  pub filled : AreFilled ms → AreFilled ns

-- without the counts of a key
pub record IsForgotten (ms ns : List KeyCounts) (k : PlainTerm) : Type 0 where
  pub counts : (v j : Term) → further_of ns v j ≡ (if same (term j) k then 0 else further_of ms v j)
  pub filled : AreFilled ms → AreFilled ns

-- with one more at a value and a key, if they are a pair of the entries already
pub record IsAdded (es : List Entry) (ms ns : List KeyCounts) (x k : PlainTerm) : Type 0 where
  pub counts : (v j : Term) → further_of ns v j ≡ (if is_pair x k v j && has_pair es v j then further_of ms v j + 1 else further_of ms v j)
  pub filled : AreFilled ms → AreFilled ns

-- how many of some records have a value at a position
abbrev pub how_many : ℕ → PlainTerm → Rows → ℕ
how_many p x rows = count_by (has_value p x) rows

-- a value and a key have a count of the records of that key that have the value there, less the first
pub record IsFurtherOf (rows : Rows) (p : ℕ) (ms : List KeyCounts) : Type 0 where
  pub counts : (v k : Term) → further_of ms v k ≡ how_many p (term v) (at rows (term k)) - 1
  pub filled : AreFilled ms

-- no two records of a key are equal
pub record AreApart (rows : Rows) : Type 0 where
  pub apart : (r k : PlainTerm) → count_by (same r) (at rows k) ≤ 1
