-- One more key noted, and one more pair kept.
use Rattle.std.proofs.Common.{◌≡◌, ◌⊎◌, inl, inr, ℕ, ◌+◌, ◌-◌, ◌<◌, ◌≤◌, true, nat_le, le-leb, List, [], ◌∷◌, ◌++◌, length, get_or, take, drop, take_all, drop_at, length-append, slice_range, refl, sym, ap, ap₂, ◌∙◌, arith}
use Rattle.std.proofs.lemmas.Bool.{cases_eq}
use Rattle.std.proofs.lemmas.List.{get_or_append_left, get_or_push, take-append-le, drop-append-le, length-drop}
use Rattle.tab_term.specs.declared.term.Term.{Term}
use Rattle.tab_term.specs.Data.{PlainTerm}
use Rattle.tab_term.specs.Canon.{canon}
use Rattle.tab_term.specs.View.{term}
use Rattle.tab_etf.specs.declared.run.Key.{Key}
use Rattle.tab_etf.specs.Keyed.{spelling_at, next_key}
use Rattle.tab_etf.specs.Runs.{Entry, IsNoted, AreNoted, ArePaired}

spelling_inside : (s : List ℕ) (k : Key) → k.start ≤ k.end → k.end ≤ length s → spelling_at s k ≡ slice_range s k.start k.end
spelling_inside s k a b =
    let p : nat_le k.start k.end ≡ true = le-leb _ _ a in
    let q : nat_le k.end (length s) ≡ true = le-leb _ _ b in
    rw (p, q) refl

range_stays : (s t : List ℕ) (i j : ℕ) → i ≤ j → j ≤ length s → slice_range (s ++ t) i j ≡ slice_range s i j
range_stays s t i j a b =
    let inside : i ≤ length s = omega arith in
    let short : j - i ≤ length (drop i s) = omega (arith, length-drop i s) in
    ap (take (j - i)) (drop-append-le i s t inside) ∙ take-append-le (j - i) (drop i s) t short

range_behind : (s t : List ℕ) → slice_range (s ++ t) (length s) (length (s ++ t)) ≡ t
range_behind s t =
    let n : length (s ++ t) - length s ≡ length t = omega (arith, length-append s t) in
    ap₂ take n (drop_at s t (length s) refl) ∙ take_all (length t) t (omega arith)

noted_stays : (s t : List ℕ) (i : ℕ) (k : Key) (e : Entry) → IsNoted s i k e → IsNoted (s ++ t) i k e
noted_stays s t i k e n =
    let inside : k.end ≤ length (s ++ t) = omega (arith, n.inside, length-append s t) in
    record {
      pair = n.pair;
      left = n.left;
      order = n.order;
      inside = inside;
      spelling = spelling_inside (s ++ t) k n.order inside ∙ range_stays s t k.start k.end n.order n.inside ∙ sym (spelling_inside s k n.order n.inside) ∙ n.spelling;
    }

next_is_noted : (s : List ℕ) (t x : PlainTerm) (left i : ℕ) → IsNoted (s ++ canon t) i (next_key s (s ++ canon t) left i) (t, x, left)
next_is_noted s t x left i =
    let order : length s ≤ length (s ++ canon t) = omega (arith, length-append s (canon t)) in
    record {
      pair = refl;
      left = refl;
      order = order;
      inside = omega arith;
      spelling = spelling_inside (s ++ canon t) (next_key s (s ++ canon t) left i) order (omega arith) ∙ range_behind s (canon t);
    }

length_more : {X : Type 0} (xs : List X) (x : X) → length (xs ++ x ∷ []) ≡ length xs + 1
length_more xs x = length-append xs (x ∷ [])

last_or_before : (n i : ℕ) → i < n + 1 → (i ≡ n) ⊎ (i < n)
last_or_before n i h = elim (cases_eq i n) [ inl e ↦ inl e | inr m ↦ inr (omega arith) ]

pub noted_more : (s : List ℕ) (ks : List Key) (es : List Entry) (t x : PlainTerm) (left : ℕ) → AreNoted s ks es
    → AreNoted (s ++ canon t) (ks ++ next_key s (s ++ canon t) left (length ks) ∷ []) (es ++ (t, x, left) ∷ [])
noted_more s ks es t x left n = record {
  len = length_more ks _ ∙ ap (λ m. m + 1) n.len ∙ sym (length_more es _);
  each = λ i d e h.
      let k : Key = next_key s (s ++ canon t) left (length ks) in
      let more : i < length es + 1 = omega (arith, h, length_more es (t, x, left)) in
      elim (last_or_before (length es) i more) [
        | inl q ↦
            let r : i ≡ length ks = q ∙ sym n.len in
            rw (get_or_push ks k d i (sym r), get_or_push es (t, x, left) e i (sym q), r) (next_is_noted s t x left (length ks))
        | inr b ↦
            let c : i < length ks = omega (arith, b, n.len) in
            rw (get_or_append_left ks (k ∷ []) d i c, get_or_append_left es ((t, x, left) ∷ []) e i b) (noted_stays s (canon t) i (get_or ks i d) (get_or es i e) (n.each i d e b))
      ];
}

-- the same, where the bytes and the keys are known by equations
pub noted_as : (s : List ℕ) (ks : List Key) (es : List Entry) (t x : PlainTerm) (left : ℕ) → AreNoted s ks es → (more all : List ℕ) (ls : List Key)
    → more ≡ s ++ canon t → all ≡ more → ls ≡ ks ++ next_key s more left (length ks) ∷ [] → AreNoted all ls (es ++ (t, x, left) ∷ [])
noted_as s ks es t x left n more all ls e f g = rw (g, f, e) (noted_more s ks es t x left n)

module _ (ps : List (Term × Term)) (es : List Entry) (k v : Term) (left : ℕ) (a : ArePaired ps es) where
  abbrev one : Entry
  one = (term k, term v, left)

  pub paired_more : ArePaired (ps ++ (k, v) ∷ []) (es ++ one ∷ [])
  paired_more = record {
    len = length_more ps _ ∙ ap (λ m. m + 1) a.len ∙ sym (length_more es _);
    keys = λ i d e h.
        let more : i < length es + 1 = omega (arith, h, length_more es one) in
        elim (last_or_before (length es) i more) [
          | inl q ↦ rw (get_or_push ps (k, v) d i (a.len ∙ sym q), get_or_push es one e i (sym q)) refl
          | inr b ↦ rw (get_or_append_left ps ((k, v) ∷ []) d i (omega (arith, b, a.len)), get_or_append_left es (one ∷ []) e i b) (a.keys i d e b)
        ];
    values = λ i d e h.
        let more : i < length es + 1 = omega (arith, h, length_more es one) in
        elim (last_or_before (length es) i more) [
          | inl q ↦ rw (get_or_push ps (k, v) d i (a.len ∙ sym q), get_or_push es one e i (sym q)) refl
          | inr b ↦ rw (get_or_append_left ps ((k, v) ∷ []) d i (omega (arith, b, a.len)), get_or_append_left es (one ∷ []) e i b) (a.values i d e b)
        ];
  }
