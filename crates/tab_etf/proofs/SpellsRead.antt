-- What is spelled is read, whatever follows.
use Rattle.std.proofs.Common.{◌≡◌, ℕ, zero, suc, ◌+◌, ◌^◌, ◌<◌, ◌≤◌, ◌&&◌, false, List, [], ◌∷◌, ◌++◌, length, Result, Ok, Some, refl, sym, ap, ◌∙◌, append_assoc, arith, pos, ℤ, eqb, ltb}
use Rattle.std.specs.Int.{w16, w32, to_be_bytes, cast_unsigned}
use Rattle.std.specs.Int.RustNames.{FitsSigned}
use Rattle.std.specs.Str.{encode_utf8_all}
use Rattle.std.proofs.Math.Facts.{Fits-of_z}
use Rattle.std.proofs.lemmas.Bool.{ne_eqb}
use Rattle.std.proofs.lemmas.Int.{to_z-of_z}
use Rattle.std.proofs.Math.Bool.{and-false}
use Rattle.tab_term.specs.Data.{PlainTerm, int, atom, tuple, list, bin, map, PlainTerms, none, one_more, count, PlainPairs, no_pair, pair_count, depth, depths, pair_depths}
use Rattle.tab_term.specs.Numbers.{low_value}
use Rattle.tab_etf.specs.declared.fault.Stop.{Stop}
use Rattle.tab_etf.specs.Spells.{numbers, signed_value, IsAtomText, IsLatin1Text, Spells, small_integer_ext, integer_ext, small_big_ext, atom_ext, small_atom_ext, atom_utf8_ext, small_atom_utf8_ext, small_tuple_ext, large_tuple_ext, nil_ext, string_ext, list_ext, binary_ext, map_ext, SpellAll, nothing, one_first, SpellPairs, no_pairs, one_last}
use Rattle.tab_etf.specs.Keys.{KeysAscend, HasOneMore}
use Rattle.tab_etf.proofs.KeysLemmas.{more_count, more_depth, more_new, put_more, ascend_less}
use Rattle.tab_etf.proofs.MapReads.{key_is_new, pair_is_read}
use Rattle.tab_etf.specs.Reading.{Reads, text_at, short_text_at, small_integer, integer, small_big, latin1_is, utf8_is, atom_by, latin1_atom, small_latin1_atom, utf8_atom, small_utf8_atom, string, binary, times, small_tuple, large_tuple, end_of_list, long_list, pair_at, pairs_from, map_at, leaf, behind, term_at}
use Rattle.tab_etf.proofs.Fields.{wide16, wide32, number_again, bytes_again}
use Rattle.tab_etf.proofs.LeafLemmas.{utf8_again, latin1_again}

not_deepest : (ns : List ℕ) (l : ℕ) → depths (numbers ns) ≤ l → (ltb 0 (length ns) && eqb l 0) ≡ false
not_deepest [] l h = refl
not_deepest (n ∷ ns) l h =
    let e : eqb l 0 ≡ false = ne_eqb l 0 (omega arith) in
    rw e (and-false (ltb 0 (suc (length ns))))

-- ---- one tag at a time

integer_again : (z : ℤ) (rest : List ℕ) → FitsSigned w32 z → integer (to_be_bytes w32 (cast_unsigned w32 z) ++ rest) ≡ Ok (int z, rest)
unfolding integer
integer_again z rest f = rw (number_again w32 (2 ^ 32) wide32 (cast_unsigned w32 z) rest (Fits-of_z f).fits, to_z-of_z w32 z f) refl

big_again : (z : ℤ) (sign : ℕ) (digits rest : List ℕ) → signed_value sign (low_value digits) ≡ Some z → small_big (length digits ∷ sign ∷ (digits ++ rest)) ≡ Ok (int z, rest)
unfolding small_big
big_again z sign digits rest e = rw (bytes_again digits rest, e) refl

string_again : (ns rest : List ℕ) (l : ℕ) → length ns < 2 ^ 16 → depths (numbers ns) ≤ l → string (eqb l 0) (to_be_bytes w16 (length ns) ++ (ns ++ rest)) ≡ Ok (list (numbers ns), rest)
unfolding string
string_again ns rest l lt d = rw (number_again w16 (2 ^ 16) wide16 (length ns) (ns ++ rest) lt, bytes_again ns rest, not_deepest ns l d) refl

short_again : (s rest : List ℕ) → short_text_at (length s ∷ (s ++ rest)) ≡ Ok (s, rest)
unfolding short_text_at
short_again s rest = bytes_again s rest

text16_again : (s rest : List ℕ) → length s < 2 ^ 16 → text_at w16 (to_be_bytes w16 (length s) ++ (s ++ rest)) ≡ Ok (s, rest)
unfolding text_at
text16_again s rest lt = rw (number_again w16 (2 ^ 16) wide16 (length s) (s ++ rest) lt) (bytes_again s rest)

text32_again : (s rest : List ℕ) → length s < 2 ^ 32 → text_at w32 (to_be_bytes w32 (length s) ++ (s ++ rest)) ≡ Ok (s, rest)
unfolding text_at
text32_again s rest lt = rw (number_again w32 (2 ^ 32) wide32 (length s) (s ++ rest) lt) (bytes_again s rest)

binary_again : (s rest : List ℕ) → length s < 2 ^ 32 → binary (to_be_bytes w32 (length s) ++ (s ++ rest)) ≡ Ok (bin s, rest)
unfolding binary
binary_again s rest lt = rw (text32_again s rest lt) refl

atom_again : (text : List ℕ → Result (List ℕ × List ℕ) Stop) (is : List ℕ → ℕ → Result (List ℕ) Stop) (bytes s name rest : List ℕ) → text bytes ≡ Ok (s, rest) → ((left : ℕ) → is s left ≡ Ok name) → atom_by text is bytes ≡ Ok (atom name, rest)
atom_again text is bytes s name rest e h = rw (e, h (length bytes + 1)) refl

module _ (s rest : List ℕ) where
  latin1_atom_again : IsLatin1Text s → latin1_atom (to_be_bytes w16 (length s) ++ (s ++ rest)) ≡ Ok (atom (encode_utf8_all s), rest)
  unfolding latin1_atom
  latin1_atom_again h = atom_again (text_at w16) latin1_is _ s _ rest (text16_again s rest (omega (arith, h.1))) (λ left. latin1_again s left h)

  small_latin1_atom_again : IsLatin1Text s → small_latin1_atom (length s ∷ (s ++ rest)) ≡ Ok (atom (encode_utf8_all s), rest)
  unfolding small_latin1_atom
  small_latin1_atom_again h = atom_again short_text_at latin1_is _ s _ rest (short_again s rest) (λ left. latin1_again s left h)

  utf8_atom_again : length s < 2 ^ 16 → IsAtomText s → utf8_atom (to_be_bytes w16 (length s) ++ (s ++ rest)) ≡ Ok (atom s, rest)
  unfolding utf8_atom
  utf8_atom_again lt h = atom_again (text_at w16) utf8_is _ s _ rest (text16_again s rest lt) (λ left. utf8_again s left h)

  small_utf8_atom_again : IsAtomText s → small_utf8_atom (length s ∷ (s ++ rest)) ≡ Ok (atom s, rest)
  unfolding small_utf8_atom
  small_utf8_atom_again h = atom_again short_text_at utf8_is _ s _ rest (short_again s rest) (λ left. utf8_again s left h)

module _ (read : Reads) (ts : PlainTerms) (b rest : List ℕ) where
  tuple_again : times read (count ts) (b ++ rest) ≡ Ok (ts, rest) → small_tuple read (count ts ∷ (b ++ rest)) ≡ Ok (tuple ts, rest)
  unfolding small_tuple
  tuple_again h = rw h refl

  large_tuple_again : count ts < 2 ^ 32 → times read (count ts) (b ++ rest) ≡ Ok (ts, rest) → large_tuple read (to_be_bytes w32 (count ts) ++ (b ++ rest)) ≡ Ok (tuple ts, rest)
  unfolding large_tuple
  large_tuple_again lt h = rw (number_again w32 (2 ^ 32) wide32 (count ts) (b ++ rest) lt, h) refl

  list_again : count ts < 2 ^ 32 → times read (count ts) (b ++ (106 ∷ rest)) ≡ Ok (ts, 106 ∷ rest) → long_list read (to_be_bytes w32 (count ts) ++ (b ++ (106 ∷ rest))) ≡ Ok (list ts, rest)
  unfolding long_list end_of_list
  list_again lt h = rw (number_again w32 (2 ^ 32) wide32 (count ts) (b ++ (106 ∷ rest)) lt, h) refl

map_again : (read : Reads) (ps : PlainPairs) (b rest : List ℕ) → pair_count ps < 2 ^ 32 → pairs_from read (pair_count ps) no_pair (b ++ rest) ≡ Ok (ps, rest) → map_at read (to_be_bytes w32 (pair_count ps) ++ (b ++ rest)) ≡ Ok (map ps, rest)
unfolding map_at
map_again read ps b rest lt h = rw (number_again w32 (2 ^ 32) wide32 (pair_count ps) (b ++ rest) lt, h) refl

no_more : (read : Reads) (ps : PlainPairs) (rest : List ℕ) → pairs_from read 0 ps rest ≡ Ok (ps, rest)
unfolding pairs_from
no_more read ps rest = refl

-- one more pair, behind others
module _ (read : Reads) (k x : PlainTerm) (ps qs : PlainPairs) (a b c rest : List ℕ) (n : ℕ) where
  one_more_pair : pair_at read ps (b ++ (c ++ rest)) ≡ Ok (qs, rest) → pairs_from read (suc n) ps (b ++ (c ++ rest)) ≡ pairs_from read n qs rest
  unfolding pairs_from
  one_more_pair e = rw e refl

  pairs_then : HasOneMore k x ps qs → KeysAscend qs
      → read (b ++ (c ++ rest)) ≡ Ok (k, c ++ rest) → read (c ++ rest) ≡ Ok (x, rest)
      → pairs_from read (pair_count ps + suc n) no_pair (a ++ (b ++ (c ++ rest))) ≡ pairs_from read (suc n) ps (b ++ (c ++ rest))
      → pairs_from read (pair_count qs + n) no_pair ((a ++ (b ++ c)) ++ rest) ≡ pairs_from read n qs rest
  pairs_then h s ek ex before =
      let counted : pair_count qs + n ≡ pair_count ps + suc n = omega (arith, more_count h) in
      let parts : (a ++ (b ++ c)) ++ rest ≡ a ++ (b ++ (c ++ rest)) = append_assoc a (b ++ c) rest ∙ ap (λ (y : List ℕ). a ++ y) (append_assoc b c rest) in
      let one : pair_at read ps (b ++ (c ++ rest)) ≡ Ok (qs, rest) =
      pair_is_read read ps (b ++ (c ++ rest)) k (c ++ rest) x rest (key_is_new read ps (b ++ (c ++ rest)) k (c ++ rest) ek (more_new h s)) ex
      ∙ ap (λ (y : PlainPairs). Ok (y, rest)) (put_more h s) in
      ap (λ m. pairs_from read m no_pair ((a ++ (b ++ c)) ++ rest)) counted
      ∙ ap (pairs_from read (pair_count ps + suc n) no_pair) parts
      ∙ before
      ∙ one_more_pair one

all_from : (read : Reads) (t : PlainTerm) (ts : PlainTerms) (a b rest : List ℕ) → read (a ++ (b ++ rest)) ≡ Ok (t, b ++ rest) → times read (count ts) (b ++ rest) ≡ Ok (ts, rest) → times read (count (one_more t ts)) ((a ++ b) ++ rest) ≡ Ok (one_more t ts, rest)
unfolding times
all_from read t ts a b rest h hs = rw (append_assoc a b rest, h, hs) refl

none_again : (read : Reads) (rest : List ℕ) → times read 0 rest ≡ Ok (none, rest)
unfolding times
none_again read rest = refl

-- ---- behind each tag

module _ (l : ℕ) (bytes : List ℕ) where
  at_98 : term_at (suc l) (98 ∷ bytes) ≡ integer bytes
  unfolding term_at behind leaf
  at_98 = refl

  at_110 : term_at (suc l) (110 ∷ bytes) ≡ small_big bytes
  unfolding term_at behind leaf
  at_110 = refl

  at_100 : term_at (suc l) (100 ∷ bytes) ≡ latin1_atom bytes
  unfolding term_at behind leaf
  at_100 = refl

  at_115 : term_at (suc l) (115 ∷ bytes) ≡ small_latin1_atom bytes
  unfolding term_at behind leaf
  at_115 = refl

  at_118 : term_at (suc l) (118 ∷ bytes) ≡ utf8_atom bytes
  unfolding term_at behind leaf
  at_118 = refl

  at_119 : term_at (suc l) (119 ∷ bytes) ≡ small_utf8_atom bytes
  unfolding term_at behind leaf
  at_119 = refl

  at_107 : term_at (suc l) (107 ∷ bytes) ≡ string (eqb l 0) bytes
  unfolding term_at behind leaf
  at_107 = refl

  at_109 : term_at (suc l) (109 ∷ bytes) ≡ binary bytes
  unfolding term_at behind leaf
  at_109 = refl

  at_104 : term_at (suc l) (104 ∷ bytes) ≡ small_tuple (term_at l) bytes
  unfolding term_at behind
  at_104 = refl

  at_105 : term_at (suc l) (105 ∷ bytes) ≡ large_tuple (term_at l) bytes
  unfolding term_at behind
  at_105 = refl

  at_116 : term_at (suc l) (116 ∷ bytes) ≡ map_at (term_at l) bytes
  unfolding term_at behind
  at_116 = refl

  at_108 : term_at (suc l) (108 ∷ bytes) ≡ long_list (term_at l) bytes
  unfolding term_at behind
  at_108 = refl

at_97 : (l n : ℕ) (rest : List ℕ) → term_at (suc l) (97 ∷ n ∷ rest) ≡ Ok (int (pos n), rest)
unfolding term_at behind leaf small_integer
at_97 l n rest = refl

at_106 : (l : ℕ) (rest : List ℕ) → term_at (suc l) (106 ∷ rest) ≡ Ok (list none, rest)
unfolding term_at behind leaf
at_106 l rest = refl

depth_pos : (t : PlainTerm) → 1 ≤ depth t
depth_pos (int z) = omega arith
depth_pos (atom z) = omega arith
depth_pos (tuple z) = omega arith
depth_pos (list z) = omega arith
depth_pos (bin z) = omega arith
depth_pos (map z) = omega arith

mutual
  pub again : {t : PlainTerm} {b : List ℕ} → Spells t b → (l : ℕ) (rest : List ℕ) → depth t ≤ suc l → term_at (suc l) (b ++ rest) ≡ Ok (t, rest)
  again (small_integer_ext {n} lt) l rest d = at_97 l n rest
  again (integer_ext {z} f) l rest d = at_98 l _ ∙ integer_again z rest f
  again (small_big_ext {z} {sign} {digits} lt e) l rest d = at_110 l _ ∙ big_again z sign digits rest e
  again (atom_ext {s} h) l rest d = at_100 l _ ∙ ap latin1_atom (append_assoc (to_be_bytes w16 (length s)) s rest) ∙ latin1_atom_again s rest h
  again (small_atom_ext {s} h) l rest d = at_115 l _ ∙ small_latin1_atom_again s rest h
  again (atom_utf8_ext {s} lt h) l rest d = at_118 l _ ∙ ap utf8_atom (append_assoc (to_be_bytes w16 (length s)) s rest) ∙ utf8_atom_again s rest lt h
  again (small_atom_utf8_ext {s} lt h) l rest d = at_119 l _ ∙ small_utf8_atom_again s rest h
  again (small_tuple_ext {ts} {b} lt ss) l rest d = at_104 l _ ∙ tuple_again (term_at l) ts b rest (all_again ss l rest (omega arith))
  again (large_tuple_ext {ts} {b} lt ss) l rest d = at_105 l _ ∙ ap (large_tuple (term_at l)) (append_assoc (to_be_bytes w32 (count ts)) b rest) ∙ large_tuple_again (term_at l) ts b rest lt (all_again ss l rest (omega arith))
  again nil_ext l rest d = at_106 l rest
  again (string_ext {ns} lt) l rest d = at_107 l _ ∙ ap (string (eqb l 0)) (append_assoc (to_be_bytes w16 (length ns)) ns rest) ∙ string_again ns rest l lt (omega arith)
  again (list_ext {ts} {b} lt ss) l rest d = at_108 l _ ∙ ap (long_list (term_at l)) (append_assoc (to_be_bytes w32 (count ts) ++ b) (106 ∷ []) rest ∙ append_assoc (to_be_bytes w32 (count ts)) b (106 ∷ rest)) ∙ list_again (term_at l) ts b rest lt (all_again ss l (106 ∷ rest) (omega arith))
  again (binary_ext {s} lt) l rest d = at_109 l _ ∙ ap binary (append_assoc (to_be_bytes w32 (length s)) s rest) ∙ binary_again s rest lt
  again (map_ext {ps} {b} lt asc sp) l rest d =
      let counted : pair_count ps + 0 ≡ pair_count ps = omega arith in
      at_116 l _ ∙ ap (map_at (term_at l)) (append_assoc (to_be_bytes w32 (pair_count ps)) b rest)
      ∙ map_again (term_at l) ps b rest lt (ap (λ n. pairs_from (term_at l) n no_pair (b ++ rest)) (sym counted) ∙ pairs_again sp l asc 0 rest (omega arith) ∙ no_more (term_at l) ps rest)

  pub pairs_again : {ps : PlainPairs} {b : List ℕ} → SpellPairs ps b → (l : ℕ) → KeysAscend ps → (n : ℕ) (rest : List ℕ) → pair_depths ps ≤ l → pairs_from (term_at l) (pair_count ps + n) no_pair (b ++ rest) ≡ pairs_from (term_at l) n ps rest
  pairs_again no_pairs l asc n rest d = ap (λ m. pairs_from (term_at l) m no_pair rest) (omega arith)
  pairs_again (one_last {k} {x} {ps} {qs} {a} {b} {c} sp sk sx h) zero asc n rest d = absurd (omega (arith, depth_pos k, more_depth h))
  pairs_again (one_last {k} {x} {ps} {qs} {a} {b} {c} sp sk sx h) (suc l) asc n rest d =
      pairs_then (term_at (suc l)) k x ps qs a b c rest n h asc
      (again sk l (c ++ rest) (omega (arith, more_depth h)))
      (again sx l rest (omega (arith, more_depth h)))
      (pairs_again sp (suc l) (ascend_less h asc) (suc n) (b ++ (c ++ rest)) (omega (arith, more_depth h)))

  pub all_again : {ts : PlainTerms} {b : List ℕ} → SpellAll ts b → (l : ℕ) (rest : List ℕ) → depths ts ≤ l → times (term_at l) (count ts) (b ++ rest) ≡ Ok (ts, rest)
  all_again nothing l rest d = none_again (term_at l) rest
  all_again (one_first {t} {ts} {a} {b} s ss) zero rest d = absurd (omega (arith, depth_pos t))
  all_again (one_first {t} {ts} {a} {b} s ss) (suc l) rest d = all_from (term_at (suc l)) t ts a b rest (again s l (b ++ rest) (omega arith)) (all_again ss (suc l) rest (omega arith))
