-- Reading from left to right, with the first fault that is met (the faults and their order are rules of this project).
use Rattle.std.specs.Prelude.{◌≡◌, ◌-◌, ℕ, zero, suc, ◌+◌, ℤ, pos, List, [], ◌∷◌, length, take, drop, Bool, ◌&&◌, Result, Ok, Err, Option, Some, None, nat_lt, nat_le, ◌==◌, if◌then◌else◌, encode_utf8_all}
use Rattle.std.specs.Int.{Width, w16, w32, byte_len, from_be_bytes, cast_signed}
use Rattle.std.specs.Str.{is_utf8, chars}
use Rattle.tab_term.specs.Data.{PlainTerm, int, atom, tuple, list, bin, map, PlainTerms, none, one_more, PlainPairs, no_pair}
use Rattle.tab_term.specs.Numbers.{low_value}
use Rattle.tab_etf.specs.declared.fault.Fault.{Fault}
use Rattle.tab_etf.specs.declared.fault.Fault.TheVariants as faults
use Rattle.tab_etf.specs.declared.fault.Stop.{Stop}
use Rattle.tab_etf.specs.declared.fault.ReadError.{ReadError}
use Rattle.tab_etf.specs.declared.fault.ReadError.TheVariants as errors
use Rattle.tab_etf.specs.declared.fault.EtfFault.{EtfFault}
use Rattle.tab_etf.specs.declared.fault.EtfFault.TheVariants as outer
use Rattle.tab_etf.specs.Spells.{numbers, signed_value}
use Rattle.tab_etf.specs.Keys.{has_key, put_pair}

infixl 10 ◌>>=◌
-- reading goes on with what was read, and the first fault ends it
abbrev pub ◌>>=◌ : {A B : Type 0} → Result A Stop → (A → Result B Stop) → Result B Stop
(Ok x) >>= f = f x
(Err e) >>= f = Err e

-- a fault is what reading stops with; where memory ran out it may give anything
abbrev pub Fails : {Y : Type 0} → ReadError → Result Y Stop → Type 0
Fails errors.Memory read = Unit {0}
Fails (errors.At s) read = read ≡ Err s

-- reading gives what a function returned, seen by view, or its fault; where memory ran out it may give anything
abbrev pub Gives : {X Y : Type 0} → (X → Y) → Result X ReadError → Result Y Stop → Type 0
Gives view (Ok x) read = read ≡ Ok (view x)
Gives view (Err e) read = Fails e read

-- a fault, with how many bytes are left from its place on
abbrev pub stop : {A : Type 0} → Fault → ℕ → Result A Stop
stop f n = Err (record { fault = f; left = n })

-- ---- fields: a value and the bytes after it

-- one byte
abbrev pub byte_at : List ℕ → Result (ℕ × List ℕ) Stop
byte_at [] = stop faults.Truncated 0
byte_at (b ∷ bytes) = Ok (b, bytes)

-- a number of the bytes of this width, the highest first, without a sign
abbrev pub number_at : Width → List ℕ → Result (ℕ × List ℕ) Stop
number_at w bytes = if nat_lt (length bytes) (byte_len w) then stop faults.Truncated 0 else Ok (from_be_bytes w (take (byte_len w) bytes), drop (byte_len w) bytes)

-- so many bytes
abbrev pub bytes_at : ℕ → List ℕ → Result (List ℕ × List ℕ) Stop
bytes_at n bytes = if nat_lt (length bytes) n then stop faults.Truncated 0 else Ok (take n bytes, drop n bytes)

-- so many bytes behind their number
unfoldable pub short_text_at : List ℕ → Result (List ℕ × List ℕ) Stop
short_text_at bytes = do
  n ← byte_at bytes
  bytes_at n.0 n.1

-- so many bytes behind their number, which has the bytes of this width
unfoldable pub text_at : Width → List ℕ → Result (List ℕ × List ℕ) Stop
text_at w bytes = do
  n ← number_at w bytes
  bytes_at n.0 n.1

-- ---- one function for each tag

-- a way to read a term: the term and the bytes after it, or the first fault
abbrev pub Reads : Type 0
Reads = List ℕ → Result (PlainTerm × List ℕ) Stop

-- 97: one byte
unfoldable pub small_integer : Reads
small_integer bytes = do
  n ← byte_at bytes
  Ok (int (pos n.0), n.1)

-- 98: four bytes with a sign, the highest first
unfoldable pub integer : Reads
integer bytes = do
  n ← number_at w32 bytes
  Ok (int (cast_signed w32 n.0), n.1)

-- the integer of a sign and digits, or a fault where there is none in 128 bits, with so many bytes left
abbrev pub integer_is : Option ℤ → ℕ → Result ℤ Stop
integer_is None left = stop faults.Integer left
integer_is (Some z) left = Ok z

-- 110: how many digits, the sign, and the digits, the lowest first; where they are no integer the fault is at the tag
unfoldable pub small_big : Reads
small_big bytes = do
  n ← byte_at bytes
  sign ← byte_at n.1
  digits ← bytes_at n.0 sign.1
  z ← integer_is (signed_value sign.0 (low_value digits.0)) (length bytes + 1)
  Ok (int z, digits.1)

-- an atom has at most 255 characters
abbrev pub atom_is : List ℕ → ℕ → Result (List ℕ) Stop
atom_is s left = if nat_le (length (chars s)) 255 then Ok s else stop faults.Atom left

-- a text in UTF-8 of at most 255 characters
abbrev pub utf8_is : List ℕ → ℕ → Result (List ℕ) Stop
utf8_is s left = if is_utf8 s then atom_is s left else stop faults.Atom left

-- a text in Latin-1 of at most 255 characters, as UTF-8
abbrev pub latin1_is : List ℕ → ℕ → Result (List ℕ) Stop
latin1_is s left = atom_is (encode_utf8_all s) left

-- an atom whose text stands behind its length
abbrev pub atom_by : (List ℕ → Result (List ℕ × List ℕ) Stop) → (List ℕ → ℕ → Result (List ℕ) Stop) → Reads
atom_by text is bytes = do
  s ← text bytes
  name ← is s.0 (length bytes + 1)
  Ok (atom name, s.1)

-- 100: an atom in Latin-1 behind two bytes of length
unfoldable pub latin1_atom : Reads
latin1_atom bytes = atom_by (text_at w16) latin1_is bytes

-- 115: an atom in Latin-1 behind one byte of length
unfoldable pub small_latin1_atom : Reads
small_latin1_atom bytes = atom_by short_text_at latin1_is bytes

-- 118: an atom in UTF-8 behind two bytes of length
unfoldable pub utf8_atom : Reads
utf8_atom bytes = atom_by (text_at w16) utf8_is bytes

-- 119: an atom in UTF-8 behind one byte of length
unfoldable pub small_utf8_atom : Reads
small_utf8_atom bytes = atom_by short_text_at utf8_is bytes

-- 107: a list of bytes behind two bytes of length; where no deeper level may be, only an empty one
unfoldable pub string : Bool → Reads
string deepest bytes = do
  n ← number_at w16 bytes
  s ← bytes_at n.0 n.1
  if nat_lt 0 n.0 && deepest then stop faults.Depth (length bytes + 1) else Ok (list (numbers s.0), s.1)

-- 109: a binary behind four bytes of length
unfoldable pub binary : Reads
binary bytes = do
  s ← text_at w32 bytes
  Ok (bin s.0, s.1)

-- so many terms, read one after another
unfoldable pub times : Reads → ℕ → List ℕ → Result (PlainTerms × List ℕ) Stop
times read zero bytes = Ok (none, bytes)
times read (suc n) bytes = do
  first ← read bytes
  others ← times read n first.1
  Ok (one_more first.0 others.0, others.1)

-- 104: a tuple behind one byte of arity
unfoldable pub small_tuple : Reads → Reads
small_tuple read bytes = do
  n ← byte_at bytes
  ts ← times read n.0 n.1
  Ok (tuple ts.0, ts.1)

-- 105: a tuple behind four bytes of arity
unfoldable pub large_tuple : Reads → Reads
large_tuple read bytes = do
  n ← number_at w32 bytes
  ts ← times read n.0 n.1
  Ok (tuple ts.0, ts.1)

-- the byte 106, which is the tail of each list
unfoldable pub end_of_list : List ℕ → Result (List ℕ) Stop
end_of_list bytes = do
  tail ← byte_at bytes
  if tail.0 == 106 then Ok tail.1 else stop faults.ImproperTail (length bytes)

-- 108: a list behind four bytes of count, with its tail
unfoldable pub long_list : Reads → Reads
long_list read bytes = do
  n ← number_at w32 bytes
  ts ← times read n.0 n.1
  rest ← end_of_list ts.1
  Ok (list ts.0, rest)

-- a key that these pairs don't have, and whose tag has so many bytes left from it on
abbrev pub new_key : PlainPairs → PlainTerm → ℕ → Result PlainTerm Stop
new_key ps k left = if has_key k ps then stop faults.DuplicateKey left else Ok k

-- a key that these pairs don't have; the place of its fault is its tag
unfoldable pub key_at : Reads → PlainPairs → Reads
key_at read ps bytes = do
  k ← read bytes
  new ← new_key ps k.0 (length bytes)
  Ok (new, k.1)

-- these pairs and the next one
unfoldable pub pair_at : Reads → PlainPairs → List ℕ → Result (PlainPairs × List ℕ) Stop
pair_at read ps bytes = do
  k ← key_at read ps bytes
  x ← read k.1
  Ok (put_pair k.0 x.0 ps, x.1)

-- these pairs and so many more
unfoldable pub pairs_from : Reads → ℕ → PlainPairs → List ℕ → Result (PlainPairs × List ℕ) Stop
pairs_from read zero ps bytes = Ok (ps, bytes)
pairs_from read (suc n) ps bytes = do
  more ← pair_at read ps bytes
  pairs_from read n more.0 more.1

-- 116: a map behind four bytes of count
unfoldable pub map_at : Reads → Reads
map_at read bytes = do
  n ← number_at w32 bytes
  ps ← pairs_from read n.0 no_pair n.1
  Ok (map ps.0, ps.1)

-- what stands behind a tag of a term without elements
unfoldable pub leaf : Bool → ℕ → Reads
leaf deepest tag bytes =
    if tag == 97 then small_integer bytes
    else (if tag == 98 then integer bytes
    else (if tag == 110 then small_big bytes
    else (if tag == 100 then latin1_atom bytes
    else (if tag == 115 then small_latin1_atom bytes
    else (if tag == 118 then utf8_atom bytes
    else (if tag == 119 then small_utf8_atom bytes
    else (if tag == 106 then Ok (list none, bytes)
    else (if tag == 107 then string deepest bytes
    else (if tag == 109 then binary bytes
    else stop (faults.LeftOut tag) (length bytes + 1))))))))))

-- what stands behind a tag; the elements are read by read
unfoldable pub behind : Reads → Bool → ℕ → Reads
behind read deepest tag bytes =
    if tag == 104 then small_tuple read bytes
    else (if tag == 105 then large_tuple read bytes
    else (if tag == 108 then long_list read bytes
    else (if tag == 116 then map_at read bytes
    else leaf deepest tag bytes)))

-- a term of at most so many levels
unfoldable pub term_at : ℕ → Reads
term_at levels [] = stop faults.Truncated 0
term_at zero (tag ∷ bytes) = stop faults.Depth (length bytes + 1)
term_at (suc levels) (tag ∷ bytes) = behind (term_at levels) (levels == 0) tag bytes

-- a payload: the version, one term of at most 64 levels (a rule of this project), and nothing after it
unfoldable pub whole : List ℕ → Result PlainTerm Stop
whole [] = stop faults.Truncated 0
whole (v ∷ bytes) =
    if v == 131 then (term_at 64 bytes >>= λ x. if length x.1 == 0 then Ok x.0 else stop faults.Trailing (length x.1))
    else stop faults.Version (length bytes + 1)

-- ---- the same with the place of a fault counted from the front of a payload of so many bytes

-- reading stops with this fault, its place counted from the first of len bytes; for want of memory nothing is said
abbrev pub FailsAt : {Y : Type 0} → ℕ → EtfFault → Result Y Stop → Type 0
FailsAt len outer.NoMemory read = Unit {0}
FailsAt len (outer.At f place) read = (left : ℕ) × (place ≡ len - left) × (read ≡ stop f left)

-- reading gives the value, seen by view, or stops with its fault
abbrev pub Decodes : {X Y : Type 0} → (X → Y) → ℕ → Result X EtfFault → Result Y Stop → Type 0
Decodes view len (Ok x) read = read ≡ Ok (view x)
Decodes view len (Err e) read = FailsAt len e read
