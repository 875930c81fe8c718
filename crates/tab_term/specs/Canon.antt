-- The canonical spelling of a term: the one that is written, and by which terms are ordered. It is a tag of the
-- External Term Format (ERTS User's Guide) and its contents, without the version byte. That each value has one spelling
-- only, the shortest that holds it, is this project's own rule.
use Rattle.std.specs.Prelude.{ℕ, ◌^◌, ℤ, pos, negsuc, List, [], ◌∷◌, ◌++◌, length, Bool, true, false, ◌&&◌, nat_lt, ◌==◌, if◌then◌else◌, unsigned_abs}
use Rattle.std.specs.Int.{w16, w32, w64, w128, to_be_bytes, to_le_bytes, cast_unsigned}
use Rattle.tab_term.specs.Data.{PlainTerm, int, atom, tuple, list, bin, map, PlainTerms, none, one_more, PlainPairs, no_pair, one_pair, count, pair_count}

-- a list of digits, lowest first, without the zeros at its end
abbrev pub before_zeros : ℕ → List ℕ → List ℕ
before_zeros n [] = if n == 0 then [] else n ∷ []
before_zeros n (b ∷ bs) = n ∷ b ∷ bs

-- the digits, lowest first, without the zeros at their end
unfoldable pub significant : List ℕ → List ℕ
significant [] = []
significant (n ∷ ns) = before_zeros n (significant ns)

-- the integer is from 0 to 255
abbrev pub is_byte : ℤ → Bool
is_byte (pos n) = nat_lt n 256
is_byte (negsuc n) = false

-- the integer fits four bytes with a sign
abbrev pub fits_four : ℤ → Bool
fits_four (pos n) = nat_lt n (2 ^ 31)
fits_four (negsuc n) = nat_lt n (2 ^ 31)

-- the byte of the sign: 0, or 1 for an integer below 0
abbrev pub sign_of : ℤ → ℕ
sign_of (pos n) = 0
sign_of (negsuc n) = 1

-- no term in memory has a number outside 128 bits; so that `canon` is one to one of all terms, it stands here whole
unfoldable pub magnitude : ℕ → List ℕ
magnitude n = if nat_lt n (2 ^ 128) then significant (to_le_bytes w128 n) else n ∷ []

-- SMALL_INTEGER_EXT (97) to 255, INTEGER_EXT (98) where four bytes with a sign hold it, else SMALL_BIG_EXT (110)
abbrev pub int_tag : ℤ → ℕ
int_tag z = if is_byte z then 97 else (if fits_four z then 98 else 110)

-- one byte; four bytes with a sign, the highest first; or how many digits, the sign, and the digits, lowest first
unfoldable pub int_contents : ℤ → List ℕ
int_contents z =
    if is_byte z then unsigned_abs z ∷ []
    else (if fits_four z then to_be_bytes w32 (cast_unsigned w32 z)
    else length (magnitude (unsigned_abs z)) ∷ sign_of z ∷ magnitude (unsigned_abs z))

-- a length or a count; one that fits no payload stands in twelve bytes, and one that no memory has by itself
abbrev pub wide_length_field : ℕ → List ℕ
wide_length_field n = if nat_lt n (2 ^ 64) then to_be_bytes w64 n else 256 ∷ n ∷ []

-- four bytes, the highest first, for all below 4,294,967,295; else four bytes of 255 and a wider field
unfoldable pub length_field : ℕ → List ℕ
length_field n = if nat_lt n 4294967295 then to_be_bytes w32 n else 255 ∷ 255 ∷ 255 ∷ 255 ∷ wide_length_field n

-- SMALL_ATOM_UTF8_EXT (119) to 255 bytes of text, else ATOM_UTF8_EXT (118); no atom's text has 65,536 bytes
abbrev pub atom_tag : ℕ → ℕ
atom_tag n = if nat_lt n 256 then 119 else (if nat_lt n (2 ^ 16) then 118 else 120)

-- one byte to 255, two bytes to 65,535, the highest first; a longer length is by itself
unfoldable pub atom_length_field : ℕ → List ℕ
atom_length_field n = if nat_lt n 256 then n ∷ [] else (if nat_lt n (2 ^ 16) then to_be_bytes w16 n else n ∷ [])

-- SMALL_TUPLE_EXT (104) to arity 255, else LARGE_TUPLE_EXT (105)
abbrev pub tuple_tag : ℕ → ℕ
tuple_tag n = if nat_lt n 256 then 104 else 105

-- one byte to 255, else as a length
unfoldable pub arity_field : ℕ → List ℕ
arity_field n = if nat_lt n 256 then n ∷ [] else length_field n

-- whether a list is one of bytes, and which
abbrev pub is_byte_term : PlainTerm → Bool
is_byte_term (int z) = is_byte z
is_byte_term _ = false

-- an integer without its sign, so the byte of one from 0 to 255; 0 for every other term
abbrev pub byte_of : PlainTerm → ℕ
byte_of (int z) = unsigned_abs z
byte_of _ = 0

-- each of the terms is an integer from 0 to 255
abbrev pub all_bytes : PlainTerms → Bool
all_bytes none = true
all_bytes (one_more t ts) = is_byte_term t && all_bytes ts

-- the bytes of these integers, in their order
abbrev pub bytes_of : PlainTerms → List ℕ
bytes_of none = []
bytes_of (one_more t ts) = byte_of t ∷ bytes_of ts

-- NIL_EXT (106); STRING_EXT (107) for at most 65,535 members that are all bytes; else LIST_EXT (108) with tail NIL_EXT
abbrev pub list_tag : PlainTerms → ℕ
list_tag ts = if count ts == 0 then 106 else (if nat_lt (count ts) (2 ^ 16) && all_bytes ts then 107 else 108)

-- nothing; a count of two bytes and the bytes; or a count, the spellings of the elements, and the tail
unfoldable pub list_contents : PlainTerms → List ℕ → List ℕ
list_contents ts elements =
    if count ts == 0 then []
    else (if nat_lt (count ts) (2 ^ 16) && all_bytes ts then to_be_bytes w16 (count ts) ++ bytes_of ts
    else length_field (count ts) ++ elements ++ 106 ∷ [])

-- also BINARY_EXT (109) and MAP_EXT (116)
abbrev pub tag : PlainTerm → ℕ
tag (int z) = int_tag z
tag (atom s) = atom_tag (length s)
tag (tuple ts) = tuple_tag (count ts)
tag (list ts) = list_tag ts
tag (bin b) = 109
tag (map ps) = 116

-- the canonical spellings, the tag first: lengths, counts and arities, and then what they count
unfoldable mutual
  -- the canonical spelling of a term
  pub canon : PlainTerm → List ℕ
  canon (int z) = int_tag z ∷ int_contents z
  canon (atom s) = atom_tag (length s) ∷ atom_length_field (length s) ++ s
  canon (tuple ts) = tuple_tag (count ts) ∷ arity_field (count ts) ++ canons ts
  canon (list ts) = list_tag ts ∷ list_contents ts (canons ts)
  canon (bin b) = 109 ∷ length_field (length b) ++ b
  canon (map ps) = 116 ∷ length_field (pair_count ps) ++ pair_canons ps

  -- the spellings of the terms, one after another
  pub canons : PlainTerms → List ℕ
  canons none = []
  canons (one_more t ts) = canon t ++ canons ts

  -- the spellings of each key and its value, in the order of the pairs
  pub pair_canons : PlainPairs → List ℕ
  pair_canons no_pair = []
  pair_canons (one_pair k x ps) = canon k ++ canon x ++ pair_canons ps
