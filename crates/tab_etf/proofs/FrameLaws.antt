-- The payloads of a stream are those of its frames.
use Rattle.std.proofs.Common.{◌≡◌, ℕ, zero, suc, ◌<◌, ◌≤◌, List, [], ◌∷◌, ◌++◌, length, take, drop, Option, Some, None, Bool, true, false, cond, ltb, refl, sym, ap, subst, ◌∙◌, append_assoc, arith, inl, inr, ◌⊎◌, length-drop}
use Rattle.std.specs.List.{All}
use Rattle.std.specs.Int.{w32, to_be_bytes, from_be_bytes}
use Rattle.std.proofs.lemmas.Bool.{cases_lt, ltb-false, ltb-true}
use Rattle.std.proofs.lemmas.List.{take-append-drop, length-take, drop_at, get_or_past}
use Rattle.std.proofs.lemmas.Nat.{from_be_bytes-to_be_bytes_4}
use Rattle.tab_etf.specs.Frames.{limit, frame, frames, length_next}
use Rattle.tab_etf.specs.Streams.{after_length, front, Cut, cut_by, cut_at_most, payloads, rest_of, AreWithin, IsIncomplete, AreFirstFrames}
use Rattle.tab_etf.proofs.Cuts.{front_falls, payloads-front, payloads-none}
use Rattle.tab_etf.proofs.ArrivalsLemmas.{known_front}
use Rattle.tab_etf.proofs.Fields.{IsBytes, IsBytes-take, IsBytes-drop, wide32}

-- ---- the first frame

known : (b : Bool) (m n : ℕ) → cond b None (Some m) ≡ Some n → (b ≡ false) × (m ≡ n)
known true m n e = absurd cc
known false m n e = (refl, cc)

taken : (a b : Bool) (y x : List ℕ × List ℕ) → cond a None (cond b None (Some y)) ≡ Some x → (a ≡ false) × (b ≡ false) × (y ≡ x)
taken true b y x e = absurd cc
taken false true y x e = absurd cc
taken false false y x e = (refl, refl, cc)

whole_front : (bytes : List ℕ) (n : ℕ) → IsBytes bytes → length_next bytes ≡ Some n → n ≤ length (drop 4 bytes) → bytes ≡ frame (take n (drop 4 bytes)) ++ drop n (drop 4 bytes)
unfolding length_next
whole_front bytes n fits e le =
    let k = known (ltb (length bytes) 4) (from_be_bytes w32 (take 4 bytes)) n e in
    let long : 4 ≤ length bytes = ltb-false _ _ k.0 in
    let back : to_be_bytes w32 (from_be_bytes w32 (take 4 bytes)) ≡ take 4 bytes = wide32.back (take 4 bytes) (omega (arith, length-take 4 bytes)) (IsBytes-take 4 bytes fits) in
    let len : length (take n (drop 4 bytes)) ≡ n = omega (arith, length-take n (drop 4 bytes)) in
    let head : to_be_bytes w32 (length (take n (drop 4 bytes))) ≡ take 4 bytes = ap (to_be_bytes w32) (len ∙ sym k.1) ∙ back in
    sym (append_assoc (to_be_bytes w32 (length (take n (drop 4 bytes)))) (take n (drop 4 bytes)) (drop n (drop 4 bytes))
    ∙ ap (λ (h : List ℕ). h ++ (take n (drop 4 bytes) ++ drop n (drop 4 bytes))) head
    ∙ ap (λ (r : List ℕ). take 4 bytes ++ r) (take-append-drop n (drop 4 bytes)) ∙ take-append-drop 4 bytes)

first_by : (o : Option ℕ) (bytes : List ℕ) (x : List ℕ × List ℕ) → IsBytes bytes → length_next bytes ≡ o → after_length o bytes ≡ Some x → (bytes ≡ frame x.0 ++ x.1) × (length x.0 ≤ limit)
first_by None bytes x fits e f = absurd cc
first_by (Some n) bytes x fits e f =
    let rest : List ℕ = drop 4 bytes in
    let t = taken (ltb limit n) (ltb (length rest) n) (take n rest, drop n rest) x f in
    let le : n ≤ length rest = ltb-false _ _ t.1 in
    let small : n ≤ limit = ltb-false _ _ t.0 in
    subst (λ (y : List ℕ × List ℕ). (bytes ≡ frame y.0 ++ y.1) × (length y.0 ≤ limit)) t.2 (whole_front bytes n fits e le, omega (arith, length-take n rest))

first : (bytes : List ℕ) (x : List ℕ × List ℕ) → IsBytes bytes → front bytes ≡ Some x → (bytes ≡ frame x.0 ++ x.1) × (length x.0 ≤ limit)
unfolding front
first bytes x fits e = first_by (length_next bytes) bytes x fits refl e

later_fits : (a b : List ℕ) → IsBytes (a ++ b) → IsBytes b
later_fits a b h = subst (λ (r : List ℕ). IsBytes r) (drop_at a b (length a) refl) (IsBytes-drop (length a) (a ++ b) h)

-- ---- all of them

record IsWhole (bytes : List ℕ) (c : Cut) : Type 0 where
  parts : frames c.found ++ c.left ≡ bytes
  within : AreWithin c.found

cut_whole : (go : List ℕ → Cut) (bytes : List ℕ) (o : Option (List ℕ × List ℕ)) → front bytes ≡ o → IsBytes bytes → ((rest : List ℕ) → IsBytes rest → IsWhole rest (go rest)) → IsWhole bytes (cut_by go bytes o)
cut_whole go bytes None e fits h = record { parts = refl; within = tt }
cut_whole go bytes (Some x) e fits h =
    let f = first bytes x fits e in
    let r : IsBytes x.1 = later_fits (frame x.0) x.1 (subst (λ (b : List ℕ). IsBytes b) f.0 fits) in
    let w = h x.1 r in
    record {
      parts = append_assoc (frame x.0) (frames (go x.1).found) (go x.1).left ∙ ap (λ (s : List ℕ). frame x.0 ++ s) w.parts ∙ sym f.0;
      within = (f.1, w.within);
    }

cut_all : (n : ℕ) (bytes : List ℕ) → IsBytes bytes → IsWhole bytes (cut_at_most n bytes)
unfolding cut_at_most
cut_all zero bytes fits = record { parts = refl; within = tt }
cut_all (suc n) bytes fits = cut_whole (cut_at_most n) bytes (front bytes) refl fits (λ rest r. cut_all n rest r)

-- where it ends, no whole frame stands

some_or_none : (o : Option (List ℕ × List ℕ)) → (o ≡ None) ⊎ ((x : List ℕ × List ℕ) × (o ≡ Some x))
some_or_none None = inl refl
some_or_none (Some x) = inr (x, refl)

ends_at : (n : ℕ) (bytes : List ℕ) → length bytes ≤ n → front (rest_of bytes) ≡ None
ends_at zero bytes le =
    elim (some_or_none (front bytes)) [
      | inl none ↦ subst (λ (r : List ℕ). front r ≡ None) (sym (payloads-none bytes none).1) none
      | inr some ↦ absurd (omega (arith, front_falls bytes some.0 some.1))
    ]
ends_at (suc n) bytes le =
    elim (some_or_none (front bytes)) [
      | inl none ↦ subst (λ (r : List ℕ). front r ≡ None) (sym (payloads-none bytes none).1) none
      | inr some ↦
          let p = payloads-front bytes some.0.0 some.0.1 some.1 in
          subst (λ (r : List ℕ). front r ≡ None) (sym p.1) (ends_at n some.0.1 (omega (arith, front_falls bytes some.0 some.1)))
    ]

tests : (a b : Bool) (y : List ℕ × List ℕ) → cond a None (cond b None (Some y)) ≡ None → (a ≡ true) ⊎ (b ≡ true)
tests true b y e = inl refl
tests false true y e = inr refl
tests false false y e = absurd cc

no_length : (b : Bool) (m : ℕ) → cond b None (Some m) ≡ None → b ≡ true
no_length true m e = refl
no_length false m e = absurd cc

short_by : (o : Option ℕ) (bytes : List ℕ) → length_next bytes ≡ o → after_length o bytes ≡ None → IsIncomplete bytes o
unfolding length_next
short_by None bytes e f = ltb-true _ _ (no_length (ltb (length bytes) 4) (from_be_bytes w32 (take 4 bytes)) e)
short_by (Some n) bytes e f =
    let rest : List ℕ = drop 4 bytes in
    elim (tests (ltb limit n) (ltb (length rest) n) (take n rest, drop n rest) f) [
      | inl over ↦ inr (ltb-true _ _ over)
      | inr few ↦ inl (omega (arith, ltb-true _ _ few, length-drop 4 bytes))
    ]

short : (bytes : List ℕ) → front bytes ≡ None → IsIncomplete bytes (length_next bytes)
unfolding front
short bytes e = short_by (length_next bytes) bytes refl e

are_bytes : (bytes : List ℕ) → All (λ b. b < 256) bytes → IsBytes bytes
are_bytes bytes h i =
    elim (cases_lt i (length bytes)) [
      | inl lt ↦ h i 0 lt
      | inr le ↦ rw (get_or_past bytes i 0 le) (omega arith)
    ]

pub first_frames : (bytes : List ℕ) → All (λ b. b < 256) bytes → AreFirstFrames bytes
unfolding payloads rest_of
first_frames bytes h =
    let fits : IsBytes bytes = are_bytes bytes h in
    let w = cut_all (length bytes) bytes fits in
    record { whole = w.parts; within = w.within; ends = short (rest_of bytes) (ends_at (length bytes) bytes (omega arith)) }

-- ---- the other way round

at_front : (p rest : List ℕ) → length p ≤ limit → front (frame p ++ rest) ≡ Some (p, rest)
at_front p rest small =
    let head : List ℕ = to_be_bytes w32 (length p) in
    let back : from_be_bytes w32 head ≡ length p = from_be_bytes-to_be_bytes_4 (length p) (omega arith) in
    known_front (frame p ++ rest) (p ++ rest) head refl (append_assoc head p rest) rest p (omega (arith, back, small)) refl (sym back)

pub framed : (ps : List (List ℕ)) (rest : List ℕ) → AreWithin ps → (payloads (frames ps ++ rest) ≡ ps ++ payloads rest) × (rest_of (frames ps ++ rest) ≡ rest_of rest)
framed [] rest h = (refl, refl)
framed (p ∷ ps) rest h =
    let ih = framed ps rest h.1 in
    let e : frames (p ∷ ps) ++ rest ≡ frame p ++ (frames ps ++ rest) = append_assoc (frame p) (frames ps) rest in
    let f = payloads-front (frame p ++ (frames ps ++ rest)) p (frames ps ++ rest) (at_front p (frames ps ++ rest) h.0) in
    (ap payloads e ∙ f.0 ∙ ap (λ (qs : List (List ℕ)). p ∷ qs) ih.0, ap rest_of e ∙ f.1 ∙ ih.1)
