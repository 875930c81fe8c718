-- A list that is spelled before its count is known, and a frame before its length.
use Rattle.std.proofs.Common.{◌≡◌, ◌≢◌, ◌⊎◌, inl, inr, ℕ, ◌+◌, ◌-◌, ◌*◌, ◌<◌, ◌≤◌, ltb, ◌==◌, Bool, true, false, Option, Some, None, List, [], ◌∷◌, ◌++◌, length, take, drop, refl, sym, ap, ◌∙◌, arith, append_assoc, length-append}
use Rattle.std.specs.Prelude.{IfNone, IfSome}
use Rattle.std.specs.Int.{w32, to_be_bytes}
use Rattle.std.proofs.lemmas.Bool.{and_parts, cases_lt, lt-ltb, le-ltb, eqb-true, eqb-false}
use Rattle.std.proofs.Math.Seq.{take-append_seam, drop-append-add, drop-append_seam}
use Rattle.tab_term.specs.Data.{int, atom, tuple, list, bin, map, pair, PlainTerm, PlainTerms, none, one_more, count}
use Rattle.tab_term.specs.Canon.{is_byte_term, all_bytes, length_field, list_tag, canon, canons}
use Rattle.tab_etf.specs.Frames.{frame}
use Rattle.std.specs.Global.{Vec}
use Rattle.tab_etf.specs.declared.counted.Counted.{Counted}
use Rattle.tab_etf.specs.declared.writer.Writer.{Writer}
use Rattle.tab_etf.specs.Listings.{IsOver, IsPast, held, faults_of, uncounted}
use Rattle.tab_etf.specs.Writing.{output, Writes}
use Rattle.tab_etf.proofs.CanonLemmas as is
use Rattle.tab_etf.proofs.Lengths.{one_long, empty_length, others_length, bytes_length as string_length}
use Rattle.tab_etf.proofs.OutlinesLemmas.{pair_canon, pair_length}
use Rattle.tab_etf.proofs.WritingLemmas.{writes_done, writes_cut}

pub some_map : {A P Q : Type 0} (o : Option A) → (P → Q) → IfSome o (λ _. P) → IfSome o (λ _. Q)
some_map None f h = tt
some_map (Some x) f h = f h

pub none_over : {A : Type 0} (o : Option A) (most before elements now : ℕ) → now ≤ before + 6 + elements → IfNone o ((most < now) ⊎ (4294967295 ≤ elements)) → IfNone o (IsOver most before elements)
none_over (Some x) most before elements now le h = tt
none_over None most before elements now le (inl lt) = inl (omega (arith, le, lt))
none_over None most before elements now le (inr h) = inr h

-- bytes in the place of as many
pub replaced : (items xs old rest bs : List ℕ) (n m : ℕ) → items ≡ xs ++ (old ++ rest) → n ≡ length xs → m ≡ n + length old → take n items ++ (bs ++ drop m items) ≡ xs ++ (bs ++ rest)
replaced items xs old rest bs n m e f g =
    let front : take n items ≡ xs = ap (λ k. take k items) f ∙ ap (take (length xs)) e ∙ take-append_seam xs (old ++ rest) in
    let past : m ≡ length xs + length old = omega (arith, f, g) in
    let back : drop m items ≡ rest = ap (λ k. drop k items) past ∙ ap (drop (length xs + length old)) e ∙ drop-append-add xs (old ++ rest) (length old) ∙ drop-append_seam old rest in
    ap (λ (r : List ℕ). r ++ (bs ++ drop m items)) front ∙ ap (λ (r : List ℕ). xs ++ (bs ++ r)) back

-- ---- which spelling it is

pub canon_none : (ts : PlainTerms) → list_tag ts ≡ 106 → canon (list ts) ≡ 106 ∷ []
unfolding canon
canon_none ts e = is.list_none ts e

pub canon_counted : (ts : PlainTerms) (n : ℕ) → list_tag ts ≡ 108 → n ≡ count ts → n < 4294967295 → canon (list ts) ≡ 108 ∷ (to_be_bytes w32 n ++ (canons ts ++ 106 ∷ []))
unfolding canon
canon_counted ts n e c lt =
    let short : length_field n ≡ to_be_bytes w32 n = is.length_short n lt in
    is.list_others ts (λ f. absurd (omega (arith, e, f))) (λ f. absurd (omega (arith, e, f))) ∙ append_assoc (108 ∷ length_field (count ts)) (canons ts) (106 ∷ []) ∙ ap (λ m. 108 ∷ (length_field m ++ (canons ts ++ 106 ∷ []))) (sym c) ∙ ap (λ (b : List ℕ). 108 ∷ (b ++ (canons ts ++ 106 ∷ []))) short

-- the count is put in
pub counted : (items old : List ℕ) (ts : PlainTerms) (n at : ℕ) → list_tag ts ≡ 108 → n ≡ count ts → n < 4294967295 → items ≡ old ++ uncounted ts → at ≡ length old
    → take (at + 1) items ++ (to_be_bytes w32 n ++ drop (at + 1 + 4) items) ≡ old ++ canon (list ts)
counted items old ts n at e c lt i a =
    replaced items (old ++ 108 ∷ []) (0 ∷ 0 ∷ 0 ∷ 0 ∷ []) (canons ts ++ 106 ∷ []) (to_be_bytes w32 n) (at + 1) (at + 1 + 4)
    (i ∙ sym (append_assoc old (108 ∷ []) ((0 ∷ 0 ∷ 0 ∷ 0 ∷ []) ++ (canons ts ++ 106 ∷ []))))
    (omega (arith, a, length-append old (108 ∷ [])))
    (omega arith)
    ∙ append_assoc old (108 ∷ []) (to_be_bytes w32 n ++ (canons ts ++ 106 ∷ []))
    ∙ ap (λ (r : List ℕ). old ++ r) (sym (canon_counted ts n e c lt))

-- ---- the length is put in

pub framed : (items old payload : List ℕ) (n at : ℕ) → items ≡ old ++ ((0 ∷ 0 ∷ 0 ∷ 0 ∷ []) ++ payload) → at ≡ length old → n ≡ length payload
    → take at items ++ (to_be_bytes w32 n ++ drop (at + 4) items) ≡ old ++ frame payload
framed items old payload n at i a e =
    replaced items old (0 ∷ 0 ∷ 0 ∷ 0 ∷ []) payload (to_be_bytes w32 n) at (at + 4) i a (omega arith)
    ∙ ap (λ m. old ++ (to_be_bytes w32 m ++ payload)) e

-- what stands behind a frame's length is that of a pair
pub framed_pair : (items before old : List ℕ) (first second : PlainTerm) (n at : ℕ)
    → before ≡ old ++ ((0 ∷ 0 ∷ 0 ∷ 0 ∷ 131 ∷ 104 ∷ 2 ∷ []) ++ canon first) → items ≡ before ++ canon second → at ≡ length old → n ≡ length items - at - 4
    → take at items ++ (to_be_bytes w32 n ++ drop (at + 4) items) ≡ old ++ frame (131 ∷ canon (pair first second))
framed_pair items before old first second n at b i a e =
    let payload : List ℕ = 131 ∷ canon (pair first second) in
    let all : items ≡ old ++ ((0 ∷ 0 ∷ 0 ∷ 0 ∷ []) ++ payload) =
    i ∙ ap (λ (r : List ℕ). r ++ canon second) b
    ∙ append_assoc old ((0 ∷ 0 ∷ 0 ∷ 0 ∷ 131 ∷ 104 ∷ 2 ∷ []) ++ canon first) (canon second)
    ∙ ap (λ (r : List ℕ). old ++ (0 ∷ 0 ∷ 0 ∷ 0 ∷ 131 ∷ r)) (sym (pair_canon first second))
    in
    framed items old payload n at all a (omega (arith, e, a, ap length all, length-append old ((0 ∷ 0 ∷ 0 ∷ 0 ∷ []) ++ payload)))

pub frame_length : (first second : PlainTerm) → length (frame (131 ∷ canon (pair first second))) ≡ 7 + length (canon first) + length (canon second)
frame_length first second = omega (arith, pair_length first second, length-append (to_be_bytes w32 (length (131 ∷ canon (pair first second)))) (131 ∷ canon (pair first second)))

-- ---- what a vector got

module _ {a b : Writer (Counted (Vec ℕ))} {was : ℕ} {sent s : List ℕ}
    (fresh : output held faults_of a ≡ record { failed = false; faults = was; sent = Some sent; kept = [] }) (p : Writes held faults_of a b s) where
  pub got_part : {items : List ℕ} → b.failed ≡ true → items ≡ b.device.now.inner.items → (x : List ℕ) × (items ≡ sent ++ x)
  got_part f e =
      let cut = writes_cut fresh p f {device = b.device.now} refl in
      (take cut.0 s, e ∙ cut.1)

  pub got_all : {items : List ℕ} → b.failed ≡ false → b.bytes.items ≡ [] → items ≡ b.device.now.inner.items → items ≡ sent ++ s
  got_all f k e = e ∙ writes_done fresh p f k {device = b.device.now} refl

  pub got_length : b.failed ≡ false → b.bytes.items ≡ [] → length b.device.now.inner.items ≡ length sent + length s
  got_length f k = ap length (writes_done fresh p f k {device = b.device.now} refl) ∙ length-append sent s

-- ---- how long bytes are as terms

byte_length : (t : PlainTerm) → is_byte_term t ≡ true → length (canon t) ≡ 2
unfolding canon
byte_length (int z) e = one_long z e
byte_length (atom s) e = absurd (cc)
byte_length (tuple ts) e = absurd (cc)
byte_length (list ts) e = absurd (cc)
byte_length (bin b) e = absurd (cc)
byte_length (map ps) e = absurd (cc)

pub bytes_length : (ts : PlainTerms) → all_bytes ts ≡ true → length (canons ts) ≡ 2 * count ts
unfolding canon
bytes_length none e = refl
bytes_length (one_more t ts) e =
    let both = and_parts (is_byte_term t) (all_bytes ts) e in
    omega (arith, length-append (canon t) (canons ts), byte_length t both.0, bytes_length ts both.1)

-- ---- how long a list is beside its elements

field_least : (n : ℕ) → 4 ≤ length (length_field n)
unfolding length_field
field_least n =
    elim (cases_lt n 4294967295) [
      | inl lt ↦ let t : ltb n 4294967295 ≡ true = lt-ltb _ _ lt in rw t (omega arith)
      | inr le ↦ let t : ltb n 4294967295 ≡ false = le-ltb _ _ le in rw t (omega arith)
    ]

no_elements : (ts : PlainTerms) → count ts ≡ 0 → length (canons ts) ≡ 0
unfolding canon
no_elements none e = refl
no_elements (one_more t ts) e = absurd (omega (arith, e))

module _ (ts : PlainTerms) where
  others_longer : list_tag ts ≢ 106 → list_tag ts ≢ 107 → 6 + length (canons ts) ≤ length (canon (list ts))
  others_longer e f = omega (arith, others_length ts ts (count ts) refl refl e f, field_least (count ts))

  elements_within : (p q : Bool) → (list_tag ts == 106) ≡ p → (list_tag ts == 107) ≡ q
      → (6 + length (canons ts) ≤ 2 * length (canon (list ts)) + 4) × (4294967295 ≤ length (canons ts) → 4294967295 ≤ length (canon (list ts)))
  elements_within true q e f =
      let none : length (canons ts) ≡ 0 = no_elements ts (is.list_empty ts (eqb-true _ _ e)) in
      let one : length (canon (list ts)) ≡ 1 = empty_length ts ts (count ts) refl refl (eqb-true _ _ e) in
      (omega arith, λ h. absurd (omega (arith, h)))
  elements_within false true e f =
      let tag : list_tag ts ≡ 107 = eqb-true _ _ f in
      let elements = bytes_length ts (is.list_of_bytes ts tag) in
      let text : length (canon (list ts)) ≡ 3 + count ts = string_length ts ts (count ts) refl refl tag in
      let short = is.list_short ts tag in
      (omega (arith, elements), λ h. absurd (omega (arith, h, elements, short)))
  elements_within false false e f =
      let more = others_longer (eqb-false _ _ e) (eqb-false _ _ f) in
      (omega (arith, more), λ h. omega (arith, h, more))

  pub past_list : (most before : ℕ) → IsOver most before (length (canons ts)) → IsPast most before (length (canon (list ts)))
  past_list most before (inl lt) = inl (omega (arith, lt, (elements_within _ _ refl refl).0))
  past_list most before (inr le) = inr ((elements_within _ _ refl refl).1 le)
