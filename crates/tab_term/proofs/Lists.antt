-- Lists of terms, one after another.
use Rattle.std.proofs.Common.{◌≡◌, ◌≢◌, ◌*◌, zero, suc, ◌≤◌, ◌&&◌, ℕ, ◌+◌, ◌<◌, Bool, true, false, drop, arith, List, [], ◌∷◌, ◌++◌, length, take, get_or, ap, ap₂, sym, ◌∙◌, refl}
use Rattle.std.proofs.lemmas.List.{take_all, take_more, at_drop_more, at_drop_all, length-append}
use Rattle.tab_term.specs.declared.term.Term.{Term}
use Rattle.std.specs.Str.{IsUtf8, chars}
use Rattle.std.proofs.Math.Utf8.{encode, encodes}
use Rattle.std.proofs.lemmas.Str.{length-encode, len_utf8_bounds, encodes-chars}
use Rattle.tab_term.specs.Data.{PlainTerm, PlainTerms, none, one_more, PlainPairs, no_pair, one_pair, count, pair_count, weight, nodes, pair_nodes}
use Rattle.tab_term.specs.Same.{same, all_same, pairs_same}
use Rattle.tab_term.specs.View.{term, terms, pairs}
use Rattle.tab_term.specs.Pattern.{matches, all_match}
use Rattle.std.proofs.Math.Bool.{and-false, and-true}

abbrev pub push : PlainTerms → PlainTerm → PlainTerms
push none t = one_more t none
push (one_more u us) t = one_more u (push us t)

pub terms-push : (ts : List Term) (t : Term) → terms (ts ++ t ∷ []) ≡ push (terms ts) (term t)
terms-push [] t = refl
terms-push (u ∷ us) t = ap (one_more (term u)) (terms-push us t)

pub push_same : (xs bs : List Term) (i : ℕ) (a : Term) → i < length bs → terms xs ≡ terms (take i bs) → a ≡ get_or bs i a → terms (xs ++ a ∷ []) ≡ terms (take (i + 1) bs)
push_same xs bs i a h e same = terms-push xs a ∙ ap (λ ts. push ts (term a)) e ∙ sym (terms-push (take i bs) a) ∙ ap terms (sym (take_more bs i a h ∙ ap (λ x. take i bs ++ x ∷ []) (sym same)))

-- ---- a loop over two lists at once

pub lengths_differ : (xs ys : List Term) → length xs ≢ length ys → all_same (terms xs) (terms ys) ≡ false
lengths_differ [] [] h = absurd (h refl)
lengths_differ [] (y ∷ ys) h = refl
lengths_differ (x ∷ xs) [] h = refl
lengths_differ (x ∷ xs) (y ∷ ys) h = ap (λ b. same (term x) (term y) && b) (lengths_differ xs ys (λ e. h (omega arith))) ∙ and-false (same (term x) (term y))

pub match_lengths_differ : (xs ys : List Term) → length xs ≢ length ys → all_match (terms xs) (terms ys) ≡ false
match_lengths_differ [] [] h = absurd (h refl)
match_lengths_differ [] (y ∷ ys) h = refl
match_lengths_differ (x ∷ xs) [] h = refl
match_lengths_differ (x ∷ xs) (y ∷ ys) h = ap (λ b. matches (term x) (term y) && b) (match_lengths_differ xs ys (λ e. h (omega arith))) ∙ and-false (matches (term x) (term y))

-- one element that does not fit its pattern is enough
pub unlike_at : (ps ts : List Term) (n : ℕ) (p t : Term) → n < length ps → n < length ts → p ≡ get_or ps n p → t ≡ get_or ts n t → matches (term p) (term t) ≡ false → all_match (terms ps) (terms ts) ≡ false
unlike_at [] ts n p t hp ht ep et h = absurd (omega (arith, hp))
unlike_at (x ∷ ps) [] n p t hp ht ep et h = refl
unlike_at (x ∷ ps) (y ∷ ts) zero p t hp ht ep et h = ap (λ b. b && all_match (terms ps) (terms ts)) (ap₂ (λ u v. matches (term u) (term v)) (sym ep) (sym et) ∙ h)
unlike_at (x ∷ ps) (y ∷ ts) (suc n) p t hp ht ep et h =
    ap (λ b. matches (term x) (term y) && b) (unlike_at ps ts n p t (omega (arith, hp)) (omega (arith, ht)) ep et h)
    ∙ and-false (matches (term x) (term y))

pub next_same : (xs ys : List Term) (i : ℕ) (x y : Term) → i < length xs → i < length ys → x ≡ get_or xs i x → y ≡ get_or ys i y → all_same (terms (drop i xs)) (terms (drop i ys)) ≡ (same (term x) (term y) && all_same (terms (drop (i + 1) xs)) (terms (drop (i + 1) ys)))
next_same xs ys i x y hx hy ex ey =
    at_drop_more (λ us. all_same (terms us) (terms (drop i ys))) xs i x hx
    ∙ at_drop_more (λ vs. all_same (terms (get_or xs i x ∷ drop (i + 1) xs)) (terms vs)) ys i y hy
    ∙ ap₂ (λ u v. same (term u) (term v) && all_same (terms (drop (i + 1) xs)) (terms (drop (i + 1) ys))) (sym ex) (sym ey)

-- ---- and from its end, of a test of each two elements

module _ (test : PlainTerm → PlainTerm → Bool) (all : PlainTerms → PlainTerms → Bool) (nothing : all none none ≡ true) (one_each : (x y : PlainTerm) (xs ys : PlainTerms) → all (one_more x xs) (one_more y ys) ≡ (test x y && all xs ys)) where
  grouped : (a b c : Bool) → (a && (b && c)) ≡ ((a && b) && c)
  grouped true b c = refl
  grouped false b c = refl

  both_taken : (xs ys : List Term) (n : ℕ) (x y : Term) → n < length xs → n < length ys → x ≡ get_or xs n x → y ≡ get_or ys n y
      → all (terms (take (suc n) xs)) (terms (take (suc n) ys)) ≡ (all (terms (take n xs)) (terms (take n ys)) && test (term x) (term y))
  both_taken [] ys n x y hx hy ex ey = absurd (omega (arith, hx))
  both_taken (u ∷ us) [] n x y hx hy ex ey = absurd (omega (arith, hy))
  both_taken (u ∷ us) (v ∷ vs) zero x y hx hy ex ey =
      one_each (term u) (term v) none none ∙ ap (λ b. test (term u) (term v) && b) nothing ∙ and-true (test (term u) (term v))
      ∙ ap₂ (λ a b. test (term a) (term b)) (sym ex) (sym ey) ∙ ap (λ b. b && test (term x) (term y)) (sym nothing)
  both_taken (u ∷ us) (v ∷ vs) (suc n) x y hx hy ex ey =
      one_each (term u) (term v) (terms (take (suc n) us)) (terms (take (suc n) vs))
      ∙ ap (λ b. test (term u) (term v) && b) (both_taken us vs n x y (omega (arith, hx)) (omega (arith, hy)) ex ey)
      ∙ grouped (test (term u) (term v)) (all (terms (take n us)) (terms (take n vs))) (test (term x) (term y))
      ∙ ap (λ b. b && test (term x) (term y)) (sym (one_each (term u) (term v) (terms (take n us)) (terms (take n vs))))

  last_of_both : (xs ys : List Term) (i n : ℕ) (x y : Term) (b : Bool) → i ≡ suc n → i ≤ length xs → length xs ≡ length ys → x ≡ get_or xs n x → y ≡ get_or ys n y → test (term x) (term y) ≡ b
      → all (terms (take i xs)) (terms (take i ys)) ≡ (all (terms (take n xs)) (terms (take n ys)) && b)
  last_of_both xs ys i n x y b more within e ex ey h =
      ap (λ m. all (terms (take m xs)) (terms (take m ys))) more ∙ both_taken xs ys n x y (omega (arith, more, within)) (omega (arith, more, within, e)) ex ey
      ∙ ap (λ b. all (terms (take n xs)) (terms (take n ys)) && b) h

  pub last_pass : (xs ys : List Term) (i n : ℕ) (x y : Term) → i ≡ suc n → i ≤ length xs → length xs ≡ length ys → x ≡ get_or xs n x → y ≡ get_or ys n y → test (term x) (term y) ≡ true
      → all (terms (take i xs)) (terms (take i ys)) ≡ all (terms (take n xs)) (terms (take n ys))
  last_pass xs ys i n x y more within e ex ey h = last_of_both xs ys i n x y true more within e ex ey h ∙ and-true (all (terms (take n xs)) (terms (take n ys)))

  pub last_fail : (xs ys : List Term) (i n : ℕ) (x y : Term) → i ≡ suc n → i ≤ length xs → length xs ≡ length ys → x ≡ get_or xs n x → y ≡ get_or ys n y → test (term x) (term y) ≡ false
      → all (terms (take i xs)) (terms (take i ys)) ≡ false
  last_fail xs ys i n x y more within e ex ey h = last_of_both xs ys i n x y false more within e ex ey h ∙ and-false (all (terms (take n xs)) (terms (take n ys)))

  pub all_taken : (xs ys : List Term) → length xs ≡ length ys → all (terms (take (length xs) xs)) (terms (take (length xs) ys)) ≡ all (terms xs) (terms ys)
  all_taken xs ys e = ap₂ (λ us vs. all (terms us) (terms vs)) (take_all (length xs) xs (omega arith)) (take_all (length xs) ys (omega (arith, e)))

  pub none_taken : (xs ys : List Term) (i : ℕ) → i ≡ 0 → all (terms (take i xs)) (terms (take i ys)) ≡ true
  none_taken xs ys i e = ap (λ n. all (terms (take n xs)) (terms (take n ys))) e ∙ nothing

pub all_past : (xs ys : List Term) (i : ℕ) → length xs ≤ i → length ys ≤ i → all_same (terms (drop i xs)) (terms (drop i ys)) ≡ true
all_past xs ys i hx hy = at_drop_all (λ us. all_same (terms us) (terms (drop i ys))) xs i hx ∙ at_drop_all (λ vs. all_same none (terms vs)) ys i hy

pub count_terms : (ts : List Term) → count (terms ts) ≡ length ts
count_terms [] = refl
count_terms (t ∷ ts) = ap suc (count_terms ts)

-- a member weighs no more than all
pub weight_at : (ts : List Term) (i : ℕ) (t : Term) → i < length ts → t ≡ get_or ts i t → weight (term t) ≤ nodes (terms ts)
weight_at [] i t h e = absurd (omega arith)
weight_at (u ∷ us) zero t h e = rw e (omega arith)
weight_at (u ∷ us) (suc i) t h e = omega (arith, weight_at us i t (omega arith) e)

encodes_below : (cs : List ℕ) → length (encodes cs) ≤ 4 * length cs
encodes_below [] = omega arith
encodes_below (c ∷ cs) = omega (arith, length-append (encode c) (encodes cs), length-encode c, (len_utf8_bounds c).1, encodes_below cs)

pub bytes_of_chars : (s : List ℕ) → IsUtf8 s → length s ≤ 4 * length (chars s)
bytes_of_chars s h = rw (encodes-chars s h) at (encodes_below (chars s))

encodes_above : (cs : List ℕ) → length cs ≤ length (encodes cs)
encodes_above [] = omega arith
encodes_above (c ∷ cs) = omega (arith, length-append (encode c) (encodes cs), length-encode c, (len_utf8_bounds c).0, encodes_above cs)

pub chars_of_bytes : (s : List ℕ) → IsUtf8 s → length (chars s) ≤ length s
chars_of_bytes s h = rw (encodes-chars s h) at (encodes_above (chars s))

-- ---- pairs

abbrev pub pairs_push : PlainPairs → PlainTerm → PlainTerm → PlainPairs
pairs_push no_pair k x = one_pair k x no_pair
pairs_push (one_pair l y ps) k x = one_pair l y (pairs_push ps k x)

pub pairs-push : (ps : List (Term × Term)) (p : Term × Term) → pairs (ps ++ p ∷ []) ≡ pairs_push (pairs ps) (term p.0) (term p.1)
pairs-push [] p = refl
pairs-push (q ∷ qs) p = ap (one_pair (term q.0) (term q.1)) (pairs-push qs p)

pub push_same_pair : (xs bs : List (Term × Term)) (i : ℕ) (k x : Term) (a : Term × Term) → i < length bs → pairs xs ≡ pairs (take i bs) → a ≡ get_or bs i a → k ≡ a.0 → x ≡ a.1 → pairs (xs ++ (k, x) ∷ []) ≡ pairs (take (i + 1) bs)
push_same_pair xs bs i k x a h e same hk hx = pairs-push xs (k, x) ∙ ap₂ (λ u v. pairs_push (pairs xs) (term u) (term v)) hk hx ∙ ap (λ ts. pairs_push ts (term a.0) (term a.1)) e ∙ sym (pairs-push (take i bs) a) ∙ ap pairs (sym (take_more bs i a h ∙ ap (λ x. take i bs ++ x ∷ []) (sym same)))

pub pair_lengths_differ : (xs ys : List (Term × Term)) → length xs ≢ length ys → pairs_same (pairs xs) (pairs ys) ≡ false
pair_lengths_differ [] [] h = absurd (h refl)
pair_lengths_differ [] (y ∷ ys) h = refl
pair_lengths_differ (x ∷ xs) [] h = refl
pair_lengths_differ (x ∷ xs) (y ∷ ys) h =
    ap (λ b. same (term x.0) (term y.0) && (same (term x.1) (term y.1) && b)) (pair_lengths_differ xs ys (λ e. h (omega arith)))
    ∙ ap (λ b. same (term x.0) (term y.0) && b) (and-false (same (term x.1) (term y.1)))
    ∙ and-false (same (term x.0) (term y.0))

pub count_pairs : (ps : List (Term × Term)) → pair_count (pairs ps) ≡ length ps
count_pairs [] = refl
count_pairs (p ∷ ps) = ap suc (count_pairs ps)

-- a pair weighs no more than all
pub pair_weight_at : (ps : List (Term × Term)) (i : ℕ) (p : Term × Term) → i < length ps → p ≡ get_or ps i p → weight (term p.0) + weight (term p.1) ≤ pair_nodes (pairs ps)
pair_weight_at [] i p h e = absurd (omega arith)
pair_weight_at (q ∷ qs) zero p h e = rw e (omega arith)
pair_weight_at (q ∷ qs) (suc i) p h e = omega (arith, pair_weight_at qs i p (omega arith) e)
