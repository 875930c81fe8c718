-- What is read is spelled so.
use Rattle.std.proofs.Common.{◌≡◌, ℕ, zero, suc, ◌+◌, ◌^◌, ◌<◌, ◌≤◌, ◌&&◌, cond, false, List, [], ◌∷◌, ◌++◌, length, Result, Ok, Option, Some, None, refl, sym, ap, subst, append_assoc, arith, pos, ℤ, eqb, ltb, leb, inl, inr}
use Rattle.std.specs.List.{All}
use Rattle.std.specs.Int.{w16, w32, to_be_bytes, cast_unsigned, cast_signed}
use Rattle.std.proofs.Math.Facts.{sfits_to_z, Fits-of_lt}
use Rattle.std.proofs.lemmas.Bool.{eqb-true, leb-true}
use Rattle.std.proofs.lemmas.Int.{of_z-to_z}
use Rattle.std.proofs.lemmas.List.{append-nil}
use Rattle.std.proofs.lemmas.List.Elements.{All-from_get_or}
use Rattle.std.proofs.lemmas.Str.{IsUtf8-from_is_utf8}
use Rattle.std.specs.Str.{is_utf8, chars, encode_utf8_all}
use Rattle.std.proofs.lemmas.Bool.Decides.{nat_tests}
use Rattle.tab_term.specs.Data.{PlainTerm, int, atom, tuple, list, bin, map, PlainTerms, none, one_more, count, PlainPairs, no_pair, pair_count, depth, depths, pair_depths}
use Rattle.tab_term.specs.Numbers.{low_value}
use Rattle.tab_etf.specs.declared.fault.Stop.{Stop}
use Rattle.tab_etf.specs.declared.fault.Fault.TheVariants as faults
use Rattle.tab_etf.specs.Spells.{numbers, signed_value, IsAtomText, IsLatin1Text, Spells, small_integer_ext, integer_ext, small_big_ext, atom_ext, small_atom_ext, atom_utf8_ext, small_atom_utf8_ext, small_tuple_ext, large_tuple_ext, nil_ext, string_ext, list_ext, binary_ext, map_ext, SpellAll, nothing, one_first, SpellPairs, no_pairs, one_last}
use Rattle.tab_etf.specs.Keys.{KeysAscend, has_key, put_pair}
use Rattle.tab_etf.proofs.KeysLemmas.{more_count, more_depth, put_ascends, put_is_more}
use Rattle.tab_etf.specs.Reading.{◌>>=◌, stop, Reads, byte_at, bytes_at, number_at, text_at, short_text_at, small_integer, integer, integer_is, small_big, atom_is, latin1_is, utf8_is, atom_by, latin1_atom, small_latin1_atom, utf8_atom, small_utf8_atom, string, binary, times, small_tuple, large_tuple, end_of_list, long_list, new_key, key_at, pair_at, pairs_from, map_at, leaf, behind, term_at}
use Rattle.tab_etf.proofs.Fields.{IsBytes, IsBytes-rest, bind_ok, guard_ok, chosen, done, ok_is, Takes, Takes-then, byte_takes, bytes_take, number_takes, wide16, wide32}
use Rattle.tab_etf.proofs.LeafLemmas.{latin1_chars}

-- a term that stands at the front
pub record Spelled (levels : ℕ) (bytes : List ℕ) (t : PlainTerm) (rest : List ℕ) : Type 0 where
  pub text : List ℕ
  pub takes : Takes bytes text rest
  pub spells : Spells t text
  pub within : depth t ≤ levels

pub record SpelledAll (levels n : ℕ) (bytes : List ℕ) (ts : PlainTerms) (rest : List ℕ) : Type 0 where
  pub text : List ℕ
  pub takes : Takes bytes text rest
  pub spells : SpellAll ts text
  pub within : depths ts ≤ levels
  pub counts : count ts ≡ n

abbrev pub Sound : ℕ → Reads → Type 0
Sound levels read = (bytes : List ℕ) (x : PlainTerm × List ℕ) → IsBytes bytes → read bytes ≡ Ok x → Spelled levels bytes x.0 x.1

pub times_take : (levels : ℕ) (read : Reads) → Sound levels read → (n : ℕ) (bytes : List ℕ) (x : PlainTerms × List ℕ) → IsBytes bytes → times read n bytes ≡ Ok x → SpelledAll levels n bytes x.0 x.1
unfolding times
times_take levels read sound zero bytes x fits e =
    subst (λ (y : PlainTerms × List ℕ). SpelledAll levels 0 bytes y.0 y.1) (ok_is (none, bytes) x e)
    (record { text = []; takes = record { parts = refl; rest_fits = fits }; spells = nothing; within = omega arith; counts = refl })
times_take levels read sound (suc n) bytes x fits e =
    let a = bind_ok (read bytes) (λ first. times read n first.1 >>= λ others. Ok (one_more first.0 others.0, others.1)) x e in
    let first = sound bytes a.0 fits a.1 in
    let b = bind_ok (times read n a.0.1) (λ others. Ok (one_more a.0.0 others.0, others.1)) x a.2 in
    let others = times_take levels read sound n a.0.1 b.0 first.takes.rest_fits b.1 in
    let made : PlainTerms × List ℕ = (one_more a.0.0 b.0.0, b.0.1) in
    subst (λ (y : PlainTerms × List ℕ). SpelledAll levels (suc n) bytes y.0 y.1) {x = made} (ok_is made x b.2)
    (record { text = first.text ++ others.text; takes = Takes-then bytes first.text a.0.1 others.text b.0.1 first.takes others.takes; spells = one_first first.spells others.spells; within = omega (arith, first.within, others.within); counts = ap suc others.counts })

-- ---- pairs

-- pairs that stand at the front, behind others
pub record SpelledPairs (levels n : ℕ) (before bytes : List ℕ) (ps : PlainPairs) (rest : List ℕ) : Type 0 where
  pub text : List ℕ
  pub takes : Takes bytes text rest
  pub spells : SpellPairs ps (before ++ text)
  pub ascends : KeysAscend ps
  pub within : pair_depths ps ≤ levels
  pub counts : pair_count ps ≡ n

module _ (levels : ℕ) (read : Reads) (sound : Sound levels read) where
  key_takes : (ps : PlainPairs) (bytes : List ℕ) (x : PlainTerm × List ℕ) → IsBytes bytes → key_at read ps bytes ≡ Ok x → Spelled levels bytes x.0 x.1 × (has_key x.0 ps ≡ false)
  unfolding key_at
  key_takes ps bytes x fits e =
      let a = bind_ok (read bytes) (λ k. new_key ps k.0 (length bytes) >>= λ new. Ok (new, k.1)) x e in
      let b = bind_ok (new_key ps a.0.0 (length bytes)) (λ new. Ok (new, a.0.1)) x a.2 in
      let g = guard_ok (has_key a.0.0 ps) (record { fault = faults.DuplicateKey; left = length bytes }) (done a.0.0) b.0 b.1 in
      let same : a.0.0 ≡ b.0 = ok_is a.0.0 b.0 g.1 in
      let made : PlainTerm × List ℕ = (b.0, a.0.1) in
      let k = sound bytes a.0 fits a.1 in
      subst (λ (y : PlainTerm × List ℕ). Spelled levels bytes y.0 y.1 × (has_key y.0 ps ≡ false)) {x = made} (ok_is made x b.2)
      (subst (λ (t : PlainTerm). Spelled levels bytes t a.0.1 × (has_key t ps ≡ false)) same (k, g.0))

  pair_takes : (ps : PlainPairs) (before bytes : List ℕ) (x : PlainPairs × List ℕ) → SpellPairs ps before → KeysAscend ps → pair_depths ps ≤ levels → IsBytes bytes → pair_at read ps bytes ≡ Ok x
      → SpelledPairs levels (suc (pair_count ps)) before bytes x.0 x.1
  unfolding pair_at
  pair_takes ps before bytes x spelled asc within fits e =
      let a = bind_ok (key_at read ps bytes) (λ k. read k.1 >>= λ v. Ok (put_pair k.0 v.0 ps, v.1)) x e in
      let b = bind_ok (read a.0.1) (λ v. Ok (put_pair a.0.0 v.0 ps, v.1)) x a.2 in
      let k = key_takes ps bytes a.0 fits a.1 in
      let v = sound a.0.1 b.0 k.0.takes.rest_fits b.1 in
      let h = put_is_more a.0.0 b.0.0 ps k.1 in
      let made : PlainPairs × List ℕ = (put_pair a.0.0 b.0.0 ps, b.0.1) in
      subst (λ (y : PlainPairs × List ℕ). SpelledPairs levels (suc (pair_count ps)) before bytes y.0 y.1) {x = made} (ok_is made x b.2)
      (record {
        text = k.0.text ++ v.text;
        takes = Takes-then bytes k.0.text a.0.1 v.text b.0.1 k.0.takes v.takes;
        spells = one_last spelled k.0.spells v.spells h;
        ascends = put_ascends a.0.0 b.0.0 ps asc;
        within = omega (arith, more_depth h, within, k.0.within, v.within);
        counts = more_count h;
      })

  pub pairs_take : (n : ℕ) (ps : PlainPairs) (before bytes : List ℕ) (x : PlainPairs × List ℕ) → SpellPairs ps before → KeysAscend ps → pair_depths ps ≤ levels → IsBytes bytes → pairs_from read n ps bytes ≡ Ok x
      → SpelledPairs levels (pair_count ps + n) before bytes x.0 x.1
  unfolding pairs_from
  pairs_take zero ps before bytes x spelled asc within fits e =
      let made : PlainPairs × List ℕ = (ps, bytes) in
      subst (λ (y : PlainPairs × List ℕ). SpelledPairs levels (pair_count ps + 0) before bytes y.0 y.1) {x = made} (ok_is made x e)
      (record { text = []; takes = record { parts = refl; rest_fits = fits }; spells = subst (λ (b : List ℕ). SpellPairs ps b) (sym (append-nil before)) spelled; ascends = asc; within = within; counts = omega arith })
  pairs_take (suc n) ps before bytes x spelled asc within fits e =
      let a = bind_ok (pair_at read ps bytes) (λ more. pairs_from read n more.0 more.1) x e in
      let one = pair_takes ps before bytes a.0 spelled asc within fits a.1 in
      let others = pairs_take n a.0.0 (before ++ one.text) a.0.1 x one.spells one.ascends one.within one.takes.rest_fits a.2 in
      record {
        text = one.text ++ others.text;
        takes = Takes-then bytes one.text a.0.1 others.text x.1 one.takes others.takes;
        spells = subst (λ (b : List ℕ). SpellPairs x.0 b) (append_assoc before one.text others.text) others.spells;
        ascends = others.ascends;
        within = others.within;
        counts = omega (arith, others.counts, one.counts);
      }

-- what a reader of what stands behind a tag gives
abbrev pub SoundBehind : ℕ → ℕ → Reads → Type 0
SoundBehind levels tag read = (bytes : List ℕ) (x : PlainTerm × List ℕ) → IsBytes bytes → read bytes ≡ Ok x → Spelled levels (tag ∷ bytes) x.0 x.1

behind_takes : (tag : ℕ) (bytes text rest : List ℕ) → Takes bytes text rest → Takes (tag ∷ bytes) (tag ∷ text) rest
behind_takes tag bytes text rest h = record { parts = ap (λ (b : List ℕ). tag ∷ b) h.parts; rest_fits = h.rest_fits }

-- ---- texts

-- what a reader of a text takes: its length, and the text
abbrev pub TakesText : (ℕ → List ℕ) → ℕ → (List ℕ → Result (List ℕ × List ℕ) Stop) → Type 0
TakesText field limit read = (bytes : List ℕ) (x : List ℕ × List ℕ) → IsBytes bytes → read bytes ≡ Ok x → Takes bytes (field (length x.0) ++ x.0) x.1 × (length x.0 < limit) × IsBytes x.0

short_takes : TakesText (λ n. n ∷ []) 256 short_text_at
unfolding short_text_at
short_takes bytes x fits e =
    let a = bind_ok (byte_at bytes) (λ n. bytes_at n.0 n.1) x e in
    let t = byte_takes bytes a.0 fits a.1 in
    let s = bytes_take a.0.0 a.0.1 x t.0.rest_fits a.2 in
    (subst (λ (k : ℕ). Takes bytes (k ∷ x.0) x.1) (sym s.1) (Takes-then bytes (a.0.0 ∷ []) a.0.1 x.0 x.1 t.0 s.0), omega (arith, s.1, t.1), s.2)

text16_takes : TakesText (to_be_bytes w16) (2 ^ 16) (text_at w16)
unfolding text_at
text16_takes bytes x fits e =
    let a = bind_ok (number_at w16 bytes) (λ n. bytes_at n.0 n.1) x e in
    let t = number_takes w16 (2 ^ 16) wide16 bytes a.0 fits a.1 in
    let s = bytes_take a.0.0 a.0.1 x t.0.rest_fits a.2 in
    (subst (λ (k : ℕ). Takes bytes (to_be_bytes w16 k ++ x.0) x.1) (sym s.1) (Takes-then bytes (to_be_bytes w16 a.0.0) a.0.1 x.0 x.1 t.0 s.0), omega (arith, s.1, t.1), s.2)

text32_takes : TakesText (to_be_bytes w32) (2 ^ 32) (text_at w32)
unfolding text_at
text32_takes bytes x fits e =
    let a = bind_ok (number_at w32 bytes) (λ n. bytes_at n.0 n.1) x e in
    let t = number_takes w32 (2 ^ 32) wide32 bytes a.0 fits a.1 in
    let s = bytes_take a.0.0 a.0.1 x t.0.rest_fits a.2 in
    (subst (λ (k : ℕ). Takes bytes (to_be_bytes w32 k ++ x.0) x.1) (sym s.1) (Takes-then bytes (to_be_bytes w32 a.0.0) a.0.1 x.0 x.1 t.0 s.0), omega (arith, s.1, t.1), s.2)

atom_found : (s : List ℕ) (left : ℕ) (name : List ℕ) → atom_is s left ≡ Ok name → (s ≡ name) × (length (chars s) ≤ 255)
atom_found s left name e =
    elim (chosen (leb (length (chars s)) 255) (done s) (stop faults.Atom left) (done name) e) [
      | inl here ↦ (ok_is s name here.1, leb-true _ _ here.0)
      | inr other ↦ absurd (let h = other.1 in cc)
    ]

utf8_found : (s : List ℕ) (left : ℕ) (name : List ℕ) → utf8_is s left ≡ Ok name → (s ≡ name) × IsAtomText s
utf8_found s left name e =
    elim (chosen (is_utf8 s) (atom_is s left) (stop faults.Atom left) (done name) e) [
      | inl here ↦ let f = atom_found s left name here.1 in (f.0, (IsUtf8-from_is_utf8 s here.0, f.1))
      | inr other ↦ absurd (let h = other.1 in cc)
    ]

latin1_found : (s : List ℕ) (left : ℕ) (name : List ℕ) → IsBytes s → latin1_is s left ≡ Ok name → (encode_utf8_all s ≡ name) × IsLatin1Text s
latin1_found s left name fits e =
    let f = atom_found (encode_utf8_all s) left name e in
    let bytes : All (λ c. c < 256) s = All-from_get_or (λ (c : ℕ). c < 256) s 0 (λ i lt. fits i) in
    (f.0, (bytes, omega (arith, f.1, latin1_chars s bytes)))

integer_found : (o : Option ℤ) (left : ℕ) (z : ℤ) → integer_is o left ≡ Ok z → o ≡ Some z
integer_found None left z e = absurd cc
integer_found (Some y) left z e = cc

end_takes : (bytes rest : List ℕ) → IsBytes bytes → end_of_list bytes ≡ Ok rest → Takes bytes (106 ∷ []) rest
unfolding end_of_list
end_takes bytes rest fits e =
    let a = bind_ok (byte_at bytes) (λ tail. cond (eqb tail.0 106) (Ok tail.1) (stop faults.ImproperTail (length bytes))) rest e in
    let t = byte_takes bytes a.0 fits a.1 in
    elim (chosen (eqb a.0.0 106) (done a.0.1) (stop faults.ImproperTail (length bytes)) (done rest) a.2) [
      | inl here ↦ subst (λ (r : List ℕ). Takes bytes (106 ∷ []) r) (ok_is a.0.1 rest here.1) (subst (λ (k : ℕ). Takes bytes (k ∷ []) a.0.1) (eqb-true a.0.0 106 here.0) t.0)
      | inr other ↦ absurd (let h = other.1 in cc)
    ]

depths_numbers : (ns : List ℕ) → depths (numbers ns) ≤ 1
depths_numbers [] = omega arith
depths_numbers (n ∷ ns) = omega (arith, depths_numbers ns)

numbers_depth : (ns : List ℕ) (l : ℕ) → (ltb 0 (length ns) && eqb l 0) ≡ false → depths (numbers ns) ≤ l
numbers_depth [] l h = omega arith
numbers_depth (n ∷ ns) l h = grind (arith, nat_tests, depths_numbers (n ∷ ns))

module _ (l : ℕ) where
  small_integer_takes : SoundBehind (suc l) 97 small_integer
  unfolding small_integer
  small_integer_takes bytes x fits e =
      let a = bind_ok (byte_at bytes) (λ n. Ok (int (pos n.0), n.1)) x e in
      let t = byte_takes bytes a.0 fits a.1 in
      let made : PlainTerm × List ℕ = (int (pos a.0.0), a.0.1) in
      subst (λ (y : PlainTerm × List ℕ). Spelled (suc l) (97 ∷ bytes) y.0 y.1) {x = made} (ok_is made x a.2)
      (record { text = 97 ∷ a.0.0 ∷ []; takes = behind_takes 97 bytes (a.0.0 ∷ []) a.0.1 t.0; spells = small_integer_ext t.1; within = omega arith })

  integer_takes : SoundBehind (suc l) 98 integer
  unfolding integer
  integer_takes bytes x fits e =
      let a = bind_ok (number_at w32 bytes) (λ n. Ok (int (cast_signed w32 n.0), n.1)) x e in
      let t = number_takes w32 (2 ^ 32) wide32 bytes a.0 fits a.1 in
      let made : PlainTerm × List ℕ = (int (cast_signed w32 a.0.0), a.0.1) in
      let same : cast_unsigned w32 (cast_signed w32 a.0.0) ≡ a.0.0 = of_z-to_z w32 a.0.0 t.1 in
      let told : Spells (int (cast_signed w32 a.0.0)) (98 ∷ to_be_bytes w32 (cast_unsigned w32 (cast_signed w32 a.0.0))) = integer_ext (sfits_to_z (Fits-of_lt t.1)) in
      subst (λ (y : PlainTerm × List ℕ). Spelled (suc l) (98 ∷ bytes) y.0 y.1) {x = made} (ok_is made x a.2)
      (record { text = 98 ∷ to_be_bytes w32 a.0.0; takes = behind_takes 98 bytes (to_be_bytes w32 a.0.0) a.0.1 t.0; spells = subst (λ (k : ℕ). Spells (int (cast_signed w32 a.0.0)) (98 ∷ to_be_bytes w32 k)) same told; within = omega arith })

  small_big_takes : SoundBehind (suc l) 110 small_big
  unfolding small_big
  small_big_takes bytes x fits e =
      let a = bind_ok (byte_at bytes) (λ n. byte_at n.1 >>= λ sign. bytes_at n.0 sign.1 >>= λ digits. integer_is (signed_value sign.0 (low_value digits.0)) (length bytes + 1) >>= λ z. Ok (int z, digits.1)) x e in
      let b = bind_ok (byte_at a.0.1) (λ sign. bytes_at a.0.0 sign.1 >>= λ digits. integer_is (signed_value sign.0 (low_value digits.0)) (length bytes + 1) >>= λ z. Ok (int z, digits.1)) x a.2 in
      let c = bind_ok (bytes_at a.0.0 b.0.1) (λ digits. integer_is (signed_value b.0.0 (low_value digits.0)) (length bytes + 1) >>= λ z. Ok (int z, digits.1)) x b.2 in
      let d = bind_ok (integer_is (signed_value b.0.0 (low_value c.0.0)) (length bytes + 1)) (λ z. Ok (int z, c.0.1)) x c.2 in
      let t = byte_takes bytes a.0 fits a.1 in
      let u = byte_takes a.0.1 b.0 t.0.rest_fits b.1 in
      let s = bytes_take a.0.0 b.0.1 c.0 u.0.rest_fits c.1 in
      let z : signed_value b.0.0 (low_value c.0.0) ≡ Some d.0 = integer_found (signed_value b.0.0 (low_value c.0.0)) (length bytes + 1) d.0 d.1 in
      let made : PlainTerm × List ℕ = (int d.0, c.0.1) in
      let told : Spells (int d.0) (110 ∷ length c.0.0 ∷ b.0.0 ∷ c.0.0) = small_big_ext {z = d.0} {sign = b.0.0} {digits = c.0.0} (omega (arith, s.1, t.1)) z in
      subst (λ (y : PlainTerm × List ℕ). Spelled (suc l) (110 ∷ bytes) y.0 y.1) {x = made} (ok_is made x d.2)
      (record {
        text = 110 ∷ a.0.0 ∷ b.0.0 ∷ c.0.0;
        takes = behind_takes 110 bytes (a.0.0 ∷ b.0.0 ∷ c.0.0) c.0.1 (Takes-then bytes (a.0.0 ∷ b.0.0 ∷ []) b.0.1 c.0.0 c.0.1 (Takes-then bytes (a.0.0 ∷ []) a.0.1 (b.0.0 ∷ []) b.0.1 t.0 u.0) s.0);
        spells = subst (λ (k : ℕ). Spells (int d.0) (110 ∷ k ∷ b.0.0 ∷ c.0.0)) {x = length c.0.0} s.1 told;
        within = omega arith;
      })

  atom_takes : (tag limit : ℕ) (field : ℕ → List ℕ) (text : List ℕ → Result (List ℕ × List ℕ) Stop) (is : List ℕ → ℕ → Result (List ℕ) Stop) → TakesText field limit text
      → ((s : List ℕ) (left : ℕ) (name : List ℕ) → IsBytes s → length s < limit → is s left ≡ Ok name → Spells (atom name) (tag ∷ (field (length s) ++ s)))
      → SoundBehind (suc l) tag (atom_by text is)
  atom_takes tag limit field text is takes spelled bytes x fits e =
      let a = bind_ok (text bytes) (λ s. is s.0 (length bytes + 1) >>= λ name. Ok (atom name, s.1)) x e in
      let b = bind_ok (is a.0.0 (length bytes + 1)) (λ name. Ok (atom name, a.0.1)) x a.2 in
      let t = takes bytes a.0 fits a.1 in
      let made : PlainTerm × List ℕ = (atom b.0, a.0.1) in
      subst (λ (y : PlainTerm × List ℕ). Spelled (suc l) (tag ∷ bytes) y.0 y.1) {x = made} (ok_is made x b.2)
      (record { text = tag ∷ (field (length a.0.0) ++ a.0.0); takes = behind_takes tag bytes (field (length a.0.0) ++ a.0.0) a.0.1 t.0; spells = spelled a.0.0 (length bytes + 1) b.0 t.2 t.1 b.1; within = omega arith })

  latin1_atom_takes : SoundBehind (suc l) 100 latin1_atom
  unfolding latin1_atom
  latin1_atom_takes = atom_takes 100 (2 ^ 16) (to_be_bytes w16) (text_at w16) latin1_is text16_takes
      (λ s left name fits lt e. let f = latin1_found s left name fits e in let told : Spells (atom (encode_utf8_all s)) (100 ∷ (to_be_bytes w16 (length s) ++ s)) = atom_ext f.1 in subst (λ (n : List ℕ). Spells (atom n) (100 ∷ (to_be_bytes w16 (length s) ++ s))) f.0 told)

  small_latin1_atom_takes : SoundBehind (suc l) 115 small_latin1_atom
  unfolding small_latin1_atom
  small_latin1_atom_takes = atom_takes 115 256 (λ n. n ∷ []) short_text_at latin1_is short_takes
      (λ s left name fits lt e. let f = latin1_found s left name fits e in let told : Spells (atom (encode_utf8_all s)) (115 ∷ length s ∷ s) = small_atom_ext f.1 in subst (λ (n : List ℕ). Spells (atom n) (115 ∷ length s ∷ s)) f.0 told)

  utf8_atom_takes : SoundBehind (suc l) 118 utf8_atom
  unfolding utf8_atom
  utf8_atom_takes = atom_takes 118 (2 ^ 16) (to_be_bytes w16) (text_at w16) utf8_is text16_takes
      (λ s left name fits lt e. let f = utf8_found s left name e in let told : Spells (atom s) (118 ∷ (to_be_bytes w16 (length s) ++ s)) = atom_utf8_ext lt f.1 in subst (λ (n : List ℕ). Spells (atom n) (118 ∷ (to_be_bytes w16 (length s) ++ s))) f.0 told)

  small_utf8_atom_takes : SoundBehind (suc l) 119 small_utf8_atom
  unfolding small_utf8_atom
  small_utf8_atom_takes = atom_takes 119 256 (λ n. n ∷ []) short_text_at utf8_is short_takes
      (λ s left name fits lt e. let f = utf8_found s left name e in let told : Spells (atom s) (119 ∷ length s ∷ s) = small_atom_utf8_ext lt f.1 in subst (λ (n : List ℕ). Spells (atom n) (119 ∷ length s ∷ s)) f.0 told)

  binary_takes : SoundBehind (suc l) 109 binary
  unfolding binary
  binary_takes bytes x fits e =
      let a = bind_ok (text_at w32 bytes) (λ s. Ok (bin s.0, s.1)) x e in
      let t = text32_takes bytes a.0 fits a.1 in
      let made : PlainTerm × List ℕ = (bin a.0.0, a.0.1) in
      subst (λ (y : PlainTerm × List ℕ). Spelled (suc l) (109 ∷ bytes) y.0 y.1) {x = made} (ok_is made x a.2)
      (record { text = 109 ∷ (to_be_bytes w32 (length a.0.0) ++ a.0.0); takes = behind_takes 109 bytes (to_be_bytes w32 (length a.0.0) ++ a.0.0) a.0.1 t.0; spells = binary_ext t.1; within = omega arith })

  string_takes : SoundBehind (suc l) 107 (string (eqb l 0))
  unfolding string
  string_takes bytes x fits e =
      let a = bind_ok (number_at w16 bytes) (λ n. bytes_at n.0 n.1 >>= λ s. cond (ltb 0 n.0 && eqb l 0) (stop faults.Depth (length bytes + 1)) (Ok (list (numbers s.0), s.1))) x e in
      let b = bind_ok (bytes_at a.0.0 a.0.1) (λ s. cond (ltb 0 a.0.0 && eqb l 0) (stop faults.Depth (length bytes + 1)) (Ok (list (numbers s.0), s.1))) x a.2 in
      let made : PlainTerm × List ℕ = (list (numbers b.0.0), b.0.1) in
      let g = guard_ok (ltb 0 a.0.0 && eqb l 0) (record { fault = faults.Depth; left = length bytes + 1 }) (done made) x b.2 in
      let t = number_takes w16 (2 ^ 16) wide16 bytes a.0 fits a.1 in
      let s = bytes_take a.0.0 a.0.1 b.0 t.0.rest_fits b.1 in
      let told : Spells (list (numbers b.0.0)) (107 ∷ to_be_bytes w16 (length b.0.0) ++ b.0.0) = string_ext (omega (arith, s.1, t.1)) in
      let shallow : (ltb 0 (length b.0.0) && eqb l 0) ≡ false = subst (λ (k : ℕ). (ltb 0 k && eqb l 0) ≡ false) (sym s.1) g.0 in
      subst (λ (y : PlainTerm × List ℕ). Spelled (suc l) (107 ∷ bytes) y.0 y.1) {x = made} (ok_is made x g.1)
      (record {
        text = 107 ∷ (to_be_bytes w16 a.0.0 ++ b.0.0);
        takes = behind_takes 107 bytes (to_be_bytes w16 a.0.0 ++ b.0.0) b.0.1 (Takes-then bytes (to_be_bytes w16 a.0.0) a.0.1 b.0.0 b.0.1 t.0 s.0);
        spells = subst (λ (k : ℕ). Spells (list (numbers b.0.0)) (107 ∷ to_be_bytes w16 k ++ b.0.0)) s.1 told;
        within = omega (arith, numbers_depth b.0.0 l shallow);
      })

  nil_takes : SoundBehind (suc l) 106 (λ bytes. Ok (list none, bytes))
  nil_takes bytes x fits e =
      let made : PlainTerm × List ℕ = (list none, bytes) in
      subst (λ (y : PlainTerm × List ℕ). Spelled (suc l) (106 ∷ bytes) y.0 y.1) {x = made} (ok_is made x e)
      (record { text = 106 ∷ []; takes = record { parts = refl; rest_fits = fits }; spells = nil_ext; within = omega arith })

  -- the test of one tag
  pick : (k tag : ℕ) (bytes : List ℕ) (read : Reads) {more : Result (PlainTerm × List ℕ) Stop} (x : PlainTerm × List ℕ) → IsBytes bytes → SoundBehind (suc l) k read → cond (eqb tag k) (read bytes) more ≡ Ok x
      → (more ≡ Ok x → Spelled (suc l) (tag ∷ bytes) x.0 x.1) → Spelled (suc l) (tag ∷ bytes) x.0 x.1
  pick k tag bytes read {more} x fits sound e otherwise =
      elim (chosen (eqb tag k) (read bytes) more (done x) e) [
        | inl here ↦ subst (λ (n : ℕ). Spelled (suc l) (n ∷ bytes) x.0 x.1) (sym (eqb-true tag k here.0)) (sound bytes x fits here.1)
        | inr other ↦ otherwise other.1
      ]

  leaf_sound : (tag : ℕ) → SoundBehind (suc l) tag (leaf (eqb l 0) tag)
  unfolding leaf
  leaf_sound tag bytes x fits e =
      pick 97 tag bytes small_integer x fits small_integer_takes e (λ e.
      pick 98 tag bytes integer x fits integer_takes e (λ e.
      pick 110 tag bytes small_big x fits small_big_takes e (λ e.
      pick 100 tag bytes latin1_atom x fits latin1_atom_takes e (λ e.
      pick 115 tag bytes small_latin1_atom x fits small_latin1_atom_takes e (λ e.
      pick 118 tag bytes utf8_atom x fits utf8_atom_takes e (λ e.
      pick 119 tag bytes small_utf8_atom x fits small_utf8_atom_takes e (λ e.
      pick 106 tag bytes (λ b. Ok (list none, b)) x fits nil_takes e (λ e.
      pick 107 tag bytes (string (eqb l 0)) x fits string_takes e (λ e.
      pick 109 tag bytes binary x fits binary_takes e (λ e. absurd cc))))))))))

  module _ (read : Reads) (sound : Sound l read) where
    small_tuple_takes : SoundBehind (suc l) 104 (small_tuple read)
    unfolding small_tuple
    small_tuple_takes bytes x fits e =
        let a = bind_ok (byte_at bytes) (λ n. times read n.0 n.1 >>= λ ts. Ok (tuple ts.0, ts.1)) x e in
        let t = byte_takes bytes a.0 fits a.1 in
        let b = bind_ok (times read a.0.0 a.0.1) (λ ts. Ok (tuple ts.0, ts.1)) x a.2 in
        let ts = times_take l read sound a.0.0 a.0.1 b.0 t.0.rest_fits b.1 in
        let made : PlainTerm × List ℕ = (tuple b.0.0, b.0.1) in
        let told : Spells (tuple b.0.0) (104 ∷ count b.0.0 ∷ ts.text) = small_tuple_ext (omega (arith, ts.counts, t.1)) ts.spells in
        subst (λ (y : PlainTerm × List ℕ). Spelled (suc l) (104 ∷ bytes) y.0 y.1) {x = made} (ok_is made x b.2)
        (record { text = 104 ∷ a.0.0 ∷ ts.text; takes = behind_takes 104 bytes (a.0.0 ∷ ts.text) b.0.1 (Takes-then bytes (a.0.0 ∷ []) a.0.1 ts.text b.0.1 t.0 ts.takes); spells = subst (λ (k : ℕ). Spells (tuple b.0.0) (104 ∷ k ∷ ts.text)) ts.counts told; within = omega (arith, ts.within) })

    large_tuple_takes : SoundBehind (suc l) 105 (large_tuple read)
    unfolding large_tuple
    large_tuple_takes bytes x fits e =
        let a = bind_ok (number_at w32 bytes) (λ n. times read n.0 n.1 >>= λ ts. Ok (tuple ts.0, ts.1)) x e in
        let t = number_takes w32 (2 ^ 32) wide32 bytes a.0 fits a.1 in
        let b = bind_ok (times read a.0.0 a.0.1) (λ ts. Ok (tuple ts.0, ts.1)) x a.2 in
        let ts = times_take l read sound a.0.0 a.0.1 b.0 t.0.rest_fits b.1 in
        let made : PlainTerm × List ℕ = (tuple b.0.0, b.0.1) in
        let told : Spells (tuple b.0.0) (105 ∷ (to_be_bytes w32 (count b.0.0) ++ ts.text)) = large_tuple_ext (omega (arith, ts.counts, t.1)) ts.spells in
        subst (λ (y : PlainTerm × List ℕ). Spelled (suc l) (105 ∷ bytes) y.0 y.1) {x = made} (ok_is made x b.2)
        (record {
          text = 105 ∷ (to_be_bytes w32 a.0.0 ++ ts.text);
          takes = behind_takes 105 bytes (to_be_bytes w32 a.0.0 ++ ts.text) b.0.1 (Takes-then bytes (to_be_bytes w32 a.0.0) a.0.1 ts.text b.0.1 t.0 ts.takes);
          spells = subst (λ (k : ℕ). Spells (tuple b.0.0) (105 ∷ (to_be_bytes w32 k ++ ts.text))) ts.counts told;
          within = omega (arith, ts.within);
        })

    long_list_takes : SoundBehind (suc l) 108 (long_list read)
    unfolding long_list end_of_list
    long_list_takes bytes x fits e =
        let a = bind_ok (number_at w32 bytes) (λ n. times read n.0 n.1 >>= λ ts. end_of_list ts.1 >>= λ rest. Ok (list ts.0, rest)) x e in
        let b = bind_ok (times read a.0.0 a.0.1) (λ ts. end_of_list ts.1 >>= λ rest. Ok (list ts.0, rest)) x a.2 in
        let c = bind_ok (end_of_list b.0.1) (λ rest. Ok (list b.0.0, rest)) x b.2 in
        let t = number_takes w32 (2 ^ 32) wide32 bytes a.0 fits a.1 in
        let ts = times_take l read sound a.0.0 a.0.1 b.0 t.0.rest_fits b.1 in
        let end = end_takes b.0.1 c.0 ts.takes.rest_fits c.1 in
        let made : PlainTerm × List ℕ = (list b.0.0, c.0) in
        let told : Spells (list b.0.0) (((108 ∷ to_be_bytes w32 (count b.0.0)) ++ ts.text) ++ 106 ∷ []) = list_ext {b = ts.text} (omega (arith, ts.counts, t.1)) ts.spells in
        let both = Takes-then bytes (to_be_bytes w32 a.0.0 ++ ts.text) b.0.1 (106 ∷ []) c.0 (Takes-then bytes (to_be_bytes w32 a.0.0) a.0.1 ts.text b.0.1 t.0 ts.takes) end in
        subst (λ (y : PlainTerm × List ℕ). Spelled (suc l) (108 ∷ bytes) y.0 y.1) {x = made} (ok_is made x c.2)
        (record {
          text = 108 ∷ ((to_be_bytes w32 a.0.0 ++ ts.text) ++ 106 ∷ []);
          takes = behind_takes 108 bytes ((to_be_bytes w32 a.0.0 ++ ts.text) ++ 106 ∷ []) c.0 both;
          spells = subst (λ (k : ℕ). Spells (list b.0.0) (((108 ∷ to_be_bytes w32 k) ++ ts.text) ++ 106 ∷ [])) ts.counts told;
          within = omega (arith, ts.within);
        })

    map_takes : SoundBehind (suc l) 116 (map_at read)
    unfolding map_at
    map_takes bytes x fits e =
        let a = bind_ok (number_at w32 bytes) (λ n. pairs_from read n.0 no_pair n.1 >>= λ ps. Ok (map ps.0, ps.1)) x e in
        let t = number_takes w32 (2 ^ 32) wide32 bytes a.0 fits a.1 in
        let b = bind_ok (pairs_from read a.0.0 no_pair a.0.1) (λ ps. Ok (map ps.0, ps.1)) x a.2 in
        let ps = pairs_take l read sound a.0.0 no_pair [] a.0.1 b.0 no_pairs tt (omega arith) t.0.rest_fits b.1 in
        let counted : pair_count b.0.0 ≡ a.0.0 = omega (arith, ps.counts) in
        let made : PlainTerm × List ℕ = (map b.0.0, b.0.1) in
        let told : Spells (map b.0.0) (116 ∷ (to_be_bytes w32 (pair_count b.0.0) ++ ps.text)) = map_ext (omega (arith, counted, t.1)) ps.ascends ps.spells in
        subst (λ (y : PlainTerm × List ℕ). Spelled (suc l) (116 ∷ bytes) y.0 y.1) {x = made} (ok_is made x b.2)
        (record {
          text = 116 ∷ (to_be_bytes w32 a.0.0 ++ ps.text);
          takes = behind_takes 116 bytes (to_be_bytes w32 a.0.0 ++ ps.text) b.0.1 (Takes-then bytes (to_be_bytes w32 a.0.0) a.0.1 ps.text b.0.1 t.0 ps.takes);
          spells = subst (λ (k : ℕ). Spells (map b.0.0) (116 ∷ (to_be_bytes w32 k ++ ps.text))) counted told;
          within = omega (arith, ps.within);
        })

    behind_sound : (tag : ℕ) → SoundBehind (suc l) tag (behind read (eqb l 0) tag)
    unfolding behind
    behind_sound tag bytes x fits e =
        pick 104 tag bytes (small_tuple read) x fits small_tuple_takes e (λ e.
        pick 105 tag bytes (large_tuple read) x fits large_tuple_takes e (λ e.
        pick 108 tag bytes (long_list read) x fits long_list_takes e (λ e.
        pick 116 tag bytes (map_at read) x fits map_takes e (λ e. leaf_sound tag bytes x fits e))))

pub sound : (l : ℕ) → Sound l (term_at l)
unfolding term_at
sound zero [] x fits e = absurd cc
sound zero (tag ∷ bytes) x fits e = absurd cc
sound (suc l) [] x fits e = absurd cc
sound (suc l) (tag ∷ bytes) x fits e = behind_sound l (term_at l) (sound l) tag bytes x (IsBytes-rest tag bytes fits) e
