-- The keys of a map beside their spellings: sorted, and with the numbers of their pairs.
use Rattle.std.specs.Prelude.{◌≡◌, ◌≢◌, ℕ, ◌+◌, ◌<◌, ◌≤◌, ◌&&◌, nat_le, if◌then◌else◌, pos, List, [], length, map, AllPairs, Option, Some, None, slice_index, slice_index_or, slice_range}
use Rattle.std.specs.Ordering.{nat_cmp, ordering_then}
use Rattle.std.specs.declared.cmp.Ordering.{Ordering}
use Rattle.tab_term.specs.Order.{bytes_cmp}
use Rattle.tab_term.specs.declared.term.Term.{Term}
use Rattle.tab_term.specs.declared.term.Term.TheVariants as is
use Rattle.tab_etf.specs.declared.run.Key.{Key}

-- what stands at a key's place
abbrev pub spelling_at : List ℕ → Key → List ℕ
spelling_at s k = if nat_le k.start k.end && nat_le k.end (length s) then slice_range s k.start k.end else []

-- the key behind these, once its spelling is added
abbrev pub next_key : List ℕ → List ℕ → ℕ → ℕ → Key
next_key before after left pair = record { start = length before; end = length after; left = left; pair = pair }

-- keys by their spellings as bytes, and those of one spelling by the numbers of their pairs
abbrev pub key_order : List ℕ → Key → Key → Ordering
key_order s k l = ordering_then (bytes_cmp (spelling_at s k) (spelling_at s l)) (nat_cmp k.pair l.pair)

-- of two keys the one whose pair has the lesser number; k where there is no other
abbrev pub earlier : Option Key → Key → Key
earlier None k = k
earlier (Some l) k = if nat_le l.pair k.pair then l else k

-- the key behind p has the spelling of the one at p
abbrev pub IsTwiceAt : List ℕ → List Key → ℕ → Type 0
IsTwiceAt s ks p = (d : Key) → spelling_at s (slice_index_or ks p d) ≡ spelling_at s (slice_index_or ks (p + 1) d)

-- of the first n keys, sorted, the first by number that follows one of its spelling
abbrev pub IsFirstTwice : List ℕ → List Key → ℕ → Option Key → Type 0
IsFirstTwice s ks n None = (p : ℕ) → p + 1 < n → IsTwiceAt s ks p → ⊥
IsFirstTwice s ks n (Some k) = ((p : ℕ) × (p + 1 < n) × IsTwiceAt s ks p × ((d : Key) → slice_index_or ks (p + 1) d ≡ k)) × ((p : ℕ) (d : Key) → p + 1 < n → IsTwiceAt s ks p → k.pair ≤ (slice_index_or ks (p + 1) d).pair)

-- each of n pairs has one of these keys
pub record IsOrder (ks : List Key) (n : ℕ) : Type 0 where
  pub len : length ks ≡ n
  pub below : (p : ℕ) (d : Key) → p < n → (slice_index_or ks p d).pair < n
  pub distinct : AllPairs (λ k l. k.pair ≢ l.pair) ks
  pub whole : (i : ℕ) → i < n → (p : ℕ) × (p < n) × ((d : Key) → (slice_index_or ks p d).pair ≡ i)

-- for each pair the place of its key
pub record AreRanks (ks : List Key) (ranks : List ℕ) : Type 0 where
  pub len : length ranks ≡ length ks
  pub at_key : (p : ℕ) (d : Key) → p < length ks → slice_index ranks (slice_index_or ks p d).pair ≡ p

-- numbers that are places of their own list, none twice
pub record AreRanked (ranks : List ℕ) : Type 0 where
  pub below : (k : ℕ) → k < length ranks → slice_index ranks k < length ranks
  pub distinct : (j k : ℕ) → j < length ranks → k < length ranks → slice_index ranks j ≡ slice_index ranks k → j ≡ k

-- two zeros, where no pair has the number
abbrev pub no_terms : Term × Term
no_terms = (is.Int (pos 0), is.Int (pos 0))

-- for each key, in their order, the pair that has its number
abbrev pub picked : List (Term × Term) → List Key → List (Term × Term)
picked ps ks = map (λ k. slice_index_or ps k.pair no_terms) ks
