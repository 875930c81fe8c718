-- A journal as contracts see it: its base, its entries, oldest first, and how many entries and bytes it holds at most (this
-- project's own).
use Rattle.std.specs.Prelude.{ℕ, ◌+◌, min, max, Bool, ◌||◌, ◌==◌, nat_le, List, [], ◌∷◌, length}
use Rattle.tab_model.specs.declared.data.Entry.{Entry}
use Rattle.tab_model.specs.declared.data.Entry.TheVariants.{Committed, Changed}
use Rattle.tab_model.specs.History.{Base, after_fold, without_subscriber}
use Rattle.tab_journal.specs.Bytes.{entry_memory}

-- a journal as plain data, the oldest entry first
pub record JournalView : Type 0 where
  pub base : Base
  pub entries : List Entry
  pub limit : ℕ
  pub most_bytes : ℕ

-- the weight of its entries at which a journal is full, whatever its limit of entries is
abbrev pub full_weight : ℕ
full_weight = 131072

-- an entry's weight: the moves of a commit, at least one, and at most what makes a journal full; a command on a table weighs
-- as much as a transaction of most moves (1,000 operations or begins of levels, and as many ends), so that by weight a
-- step folds one of them at most
abbrev pub weight_of : Entry → ℕ
weight_of (Committed n s age xs rs over) = max (min (length xs) full_weight) 1
weight_of (Changed c over) = 2000
weight_of e = 1

-- the weight of all entries
abbrev pub weight_in : List Entry → ℕ
weight_in [] = 0
weight_in (e ∷ es) = weight_of e + weight_in es

-- an entry's bytes, at most as many as make a journal full
abbrev pub bytes_of : ℕ → Entry → ℕ
bytes_of most e = min (entry_memory e) most

-- the bytes of all entries
abbrev pub bytes_in : ℕ → List Entry → ℕ
bytes_in most [] = 0
bytes_in most (e ∷ es) = bytes_of most e + bytes_in most es

-- it has as many entries as its limit says, or their weight or their bytes make it full
abbrev pub is_full : JournalView → Bool
is_full k = (length k.entries == k.limit) || (nat_le full_weight (weight_in k.entries) || nat_le k.most_bytes (bytes_in k.most_bytes k.entries))

-- its oldest entry is folded into its base
abbrev pub without_oldest : Bool → Base → List Entry → ℕ → ℕ → JournalView
without_oldest joined b [] n most = record { base = b; entries = []; limit = n; most_bytes = most }
without_oldest joined b (e ∷ es) n most = record { base = after_fold joined b e; entries = es; limit = n; most_bytes = most }

-- the journal with its oldest entry, if it has one, in its base; joined says that this entry's session is joined
abbrev pub fold_oldest : Bool → JournalView → JournalView
fold_oldest joined k = without_oldest joined k.base k.entries k.limit k.most_bytes

-- the journal, whose base has no subscription of session s any more
abbrev pub forget : JournalView → ℕ → JournalView
forget k s = record k { base = without_subscriber k.base s }
