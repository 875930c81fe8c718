-- Texts, and the numbers of a string.
use Rattle.std.proofs.Common.{◌≡◌, ℕ, suc, ◌+◌, ◌<◌, List, [], ◌∷◌, ◌++◌, length, take, get_or, pos, refl, sym, ap, ap₂, ◌∙◌, Ok, arith, Bool, true, false, leb}
use Rattle.std.specs.List.{All}
use Rattle.std.specs.Str.{IsUtf8, is_utf8, chars, encode_utf8_all}
use Rattle.std.proofs.Math.Utf8.{encode, encodes, scalar, scalars, low_scalar}
use Rattle.std.proofs.lemmas.Bool.{le-leb}
use Rattle.std.proofs.lemmas.Str.{IsUtf8-from_is_utf8, is_utf8-from_IsUtf8, chars-encodes, encodes-append}
use Rattle.std.proofs.lemmas.List.{take_more, append-nil}
use Rattle.tab_term.specs.Data.{int, one_more}
use Rattle.tab_term.specs.declared.term.Term.{Term}
use Rattle.tab_term.specs.View.{term, terms}
use Rattle.tab_term.proofs.Lists.{push, terms-push}
use Rattle.tab_etf.specs.declared.fault.Fault.TheVariants as faults
use Rattle.tab_etf.specs.Reading.{utf8_is, latin1_is, atom_is, stop}
use Rattle.tab_etf.specs.Spells.{numbers, IsAtomText, IsLatin1Text}

bool_cases : (b : Bool) → (b ≡ true → ⊥) → b ≡ false
bool_cases true h = absurd (h refl)
bool_cases false h = refl

not_utf8 : (s : List ℕ) → (IsUtf8 s → ⊥) → is_utf8 s ≡ false
not_utf8 s h = bool_cases (is_utf8 s) (λ e. h (IsUtf8-from_is_utf8 s e))

pub utf8_here : (s t : List ℕ) (left : ℕ) → t ≡ s → IsUtf8 s → utf8_is s left ≡ atom_is t left
utf8_here s t left e h = rw (is_utf8-from_IsUtf8 s h, e) refl

pub utf8_not : (s : List ℕ) (left : ℕ) → (IsUtf8 s → ⊥) → utf8_is s left ≡ stop faults.Atom left
utf8_not s left h = rw (not_utf8 s h) refl

pub utf8_again : (s : List ℕ) (left : ℕ) → IsAtomText s → utf8_is s left ≡ Ok s
utf8_again s left h = let short : leb (length (chars s)) 255 ≡ true = le-leb _ _ h.1 in rw (is_utf8-from_IsUtf8 s h.0, short) refl

-- ---- Latin-1

pub latin1_scalars : (s : List ℕ) → All (λ c. c < 256) s → scalars s ≡ true
latin1_scalars [] h = refl
latin1_scalars (c ∷ s) h =
    let small : c < 256 = h 0 0 (omega arith) in
    let one : scalar c ≡ true = low_scalar c (omega arith) in
    rw (one, latin1_scalars s (λ k d lt. h (suc k) d (omega arith))) refl

pub latin1_chars : (s : List ℕ) → All (λ c. c < 256) s → length (chars (encode_utf8_all s)) ≡ length s
latin1_chars s h = ap length (chars-encodes s (latin1_scalars s h))

pub latin1_again : (s : List ℕ) (left : ℕ) → IsLatin1Text s → latin1_is s left ≡ Ok (encode_utf8_all s)
latin1_again s left h =
    let n = latin1_chars s h.0 in
    let short : leb (length (chars (encode_utf8_all s))) 255 ≡ true = le-leb _ _ (omega (arith, h.1)) in
    rw short refl

encodes_one : (s : List ℕ) (c : ℕ) → encodes (s ++ c ∷ []) ≡ encodes s ++ encode c
encodes_one s c = encodes-append s (c ∷ []) ∙ ap (λ (r : List ℕ). encodes s ++ r) (append-nil (encode c))

pub latin1_more : (old new bytes : List ℕ) (i : ℕ) → i < length bytes → old ≡ encode_utf8_all (take i bytes) → new ≡ old ++ encode (get_or bytes i 0) → new ≡ encode_utf8_all (take (i + 1) bytes)
latin1_more old new bytes i lt e h =
    h ∙ ap (λ (r : List ℕ). r ++ encode (get_or bytes i 0)) e ∙ sym (encodes_one (take i bytes) (get_or bytes i 0)) ∙ ap encodes (sym (take_more bytes i 0 lt))

-- ---- lists of bytes

numbers-push : (ns : List ℕ) (n : ℕ) → numbers (ns ++ n ∷ []) ≡ push (numbers ns) (int (pos n))
numbers-push [] n = refl
numbers-push (m ∷ ms) n = ap (one_more (int (pos m))) (numbers-push ms n)

pub numbers_more : (xs : List Term) (x : Term) (ns : List ℕ) (i : ℕ) → i < length ns → terms xs ≡ numbers (take i ns) → term x ≡ int (pos (get_or ns i 0)) → terms (xs ++ x ∷ []) ≡ numbers (take (i + 1) ns)
numbers_more xs x ns i lt e is = terms-push xs x ∙ ap₂ push e is ∙ sym (numbers-push (take i ns) (get_or ns i 0)) ∙ ap numbers (sym (take_more ns i 0 lt))
