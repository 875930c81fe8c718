-- Which byte lists spell a term (ERTS User's Guide, "External Term Format"): a constructor for each tag that is read.
use Rattle.std.specs.Prelude.{◌≡◌, ℕ, ◌<◌, ◌≤◌, ◌^◌, ℤ, pos, neg_ℤ, List, [], ◌∷◌, ◌++◌, length, Option, Some, None, nat_lt, nat_le, ◌==◌, if◌then◌else◌, encode_utf8_all}
use Rattle.std.specs.List.{All}
use Rattle.std.specs.Int.{w16, w32, to_be_bytes, cast_unsigned}
use Rattle.std.specs.Int.RustNames.{FitsSigned}
use Rattle.std.specs.Str.{IsUtf8, chars}
use Rattle.tab_term.specs.Data.{PlainTerm, int, atom, tuple, list, bin, map, PlainTerms, none, one_more, count, PlainPairs, no_pair, pair_count}
use Rattle.tab_term.specs.Numbers.{low_value}
use Rattle.tab_etf.specs.Keys.{KeysAscend, HasOneMore}

-- the numbers, as terms
abbrev pub numbers : List ℕ → PlainTerms
numbers [] = none
numbers (n ∷ ns) = one_more (int (pos n)) (numbers ns)

-- the integer of a sign byte and a magnitude, where it has at most 128 bits
abbrev pub signed_value : ℕ → ℕ → Option ℤ
signed_value sign magnitude =
    if sign == 0 then (if nat_lt magnitude (2 ^ 127) then Some (pos magnitude) else None)
    else (if sign == 1 then (if nat_le magnitude (2 ^ 127) then Some (neg_ℤ (pos magnitude)) else None)
    else None)

-- an atom's text in UTF-8: at most 255 characters
abbrev pub IsAtomText : List ℕ → Type 0
IsAtomText s = IsUtf8 s × (length (chars s) ≤ 255)

-- an atom's text in Latin-1: each byte is a character
abbrev pub IsLatin1Text : List ℕ → Type 0
IsLatin1Text s = All (λ c. c < 256) s × (length s ≤ 255)

mutual
  -- these bytes spell the term
  pub data Spells : PlainTerm → List ℕ → Type 0 where
    small_integer_ext : {n : ℕ} → n < 256 → Spells (int (pos n)) (97 ∷ n ∷ [])
    integer_ext : {z : ℤ} → FitsSigned w32 z → Spells (int z) (98 ∷ to_be_bytes w32 (cast_unsigned w32 z))
    small_big_ext : {z : ℤ} {sign : ℕ} {digits : List ℕ} → length digits < 256 → signed_value sign (low_value digits) ≡ Some z → Spells (int z) (110 ∷ length digits ∷ sign ∷ digits)
    atom_ext : {s : List ℕ} → IsLatin1Text s → Spells (atom (encode_utf8_all s)) (100 ∷ to_be_bytes w16 (length s) ++ s)
    small_atom_ext : {s : List ℕ} → IsLatin1Text s → Spells (atom (encode_utf8_all s)) (115 ∷ length s ∷ s)
    atom_utf8_ext : {s : List ℕ} → length s < 2 ^ 16 → IsAtomText s → Spells (atom s) (118 ∷ to_be_bytes w16 (length s) ++ s)
    small_atom_utf8_ext : {s : List ℕ} → length s < 256 → IsAtomText s → Spells (atom s) (119 ∷ length s ∷ s)
    small_tuple_ext : {ts : PlainTerms} {b : List ℕ} → count ts < 256 → SpellAll ts b → Spells (tuple ts) (104 ∷ count ts ∷ b)
    large_tuple_ext : {ts : PlainTerms} {b : List ℕ} → count ts < 2 ^ 32 → SpellAll ts b → Spells (tuple ts) (105 ∷ to_be_bytes w32 (count ts) ++ b)
    nil_ext : Spells (list none) (106 ∷ [])
    string_ext : {ns : List ℕ} → length ns < 2 ^ 16 → Spells (list (numbers ns)) (107 ∷ to_be_bytes w16 (length ns) ++ ns)
    list_ext : {ts : PlainTerms} {b : List ℕ} → count ts < 2 ^ 32 → SpellAll ts b → Spells (list ts) (108 ∷ to_be_bytes w32 (count ts) ++ b ++ 106 ∷ [])
    binary_ext : {s : List ℕ} → length s < 2 ^ 32 → Spells (bin s) (109 ∷ to_be_bytes w32 (length s) ++ s)
    map_ext : {ps : PlainPairs} {b : List ℕ} → pair_count ps < 2 ^ 32 → KeysAscend ps → SpellPairs ps b → Spells (map ps) (116 ∷ to_be_bytes w32 (pair_count ps) ++ b)

  -- the spellings of the terms, one after another
  pub data SpellAll : PlainTerms → List ℕ → Type 0 where
    nothing : SpellAll none []
    one_first : {t : PlainTerm} {ts : PlainTerms} {a b : List ℕ} → Spells t a → SpellAll ts b → SpellAll (one_more t ts) (a ++ b)

  -- the spellings of each key and its value, the pairs in any order
  pub data SpellPairs : PlainPairs → List ℕ → Type 0 where
    no_pairs : SpellPairs no_pair []
    one_last : {k x : PlainTerm} {ps qs : PlainPairs} {a b c : List ℕ} → SpellPairs ps a → Spells k b → Spells x c → HasOneMore k x ps qs → SpellPairs qs (a ++ (b ++ c))
