-- What a stream's payloads are, however it goes on.
use Rattle.std.proofs.Common.{◌≡◌, ◌≢◌, ℕ, zero, suc, ◌+◌, ◌<◌, ◌≤◌, List, [], ◌∷◌, ◌++◌, length, take, drop, Option, Some, None, Bool, true, false, cond, ltb, refl, sym, ap, subst, ◌∙◌, append_assoc, arith, length-append, length-drop}
use Rattle.std.proofs.lemmas.Bool.{ltb-false, le-ltb, lt-ltb}
use Rattle.std.proofs.lemmas.List.{take-append-le, drop-append-le, append-nil, map-append, drop-drop}
use Rattle.std.specs.Int.{w32, from_be_bytes}
use Rattle.tab_etf.specs.declared.framing.Frame.{Frame}
use Rattle.tab_etf.specs.Frames.{limit, length_next, IsOver, payload_of, contents, IsTold, AreTold}
use Rattle.tab_etf.specs.Streams.{payload_and_rest, after_length, front, Cut, cut_by, cut_at_most, payloads, rest_of, GoesOn, Stops}

known : (b : Bool) (m n : ℕ) → cond b None (Some m) ≡ Some n → (b ≡ false) × (m ≡ n)
known true m n e = absurd cc
known false m n e = (refl, cc)

-- the length at the front stays, however the stream goes on
pub length_next-more : (bytes more : List ℕ) (n : ℕ) → length_next bytes ≡ Some n → (4 ≤ length bytes) × (length_next (bytes ++ more) ≡ Some n)
unfolding length_next
length_next-more bytes more n e =
    let k = known (ltb (length bytes) 4) (from_be_bytes w32 (take 4 bytes)) n e in
    let long : 4 ≤ length bytes = ltb-false _ _ k.0 in
    let longer : ltb (length (bytes ++ more)) 4 ≡ false = le-ltb _ _ (omega (arith, length-append bytes more)) in
    (long, rw (longer, take-append-le 4 bytes more long, k.1) refl)

pub front-whole : (bytes more : List ℕ) (n : ℕ) → length_next bytes ≡ Some n → n ≤ limit → n ≤ length (drop 4 bytes)
    → front (bytes ++ more) ≡ Some (take n (drop 4 bytes), drop n (drop 4 bytes) ++ more)
unfolding front
front-whole bytes more n e small le =
    let l = length_next-more bytes more n e in
    let within : ltb limit n ≡ false = le-ltb _ _ small in
    let there : ltb (length (drop 4 bytes ++ more)) n ≡ false = le-ltb _ _ (omega (arith, length-append (drop 4 bytes) more)) in
    rw (l.1, drop-append-le 4 bytes more l.0, within, there, take-append-le n (drop 4 bytes) more le, drop-append-le n (drop 4 bytes) more le) refl

over_none : (o : Option ℕ) (bytes : List ℕ) (n : ℕ) → IsOver o n → after_length o bytes ≡ None
over_none None bytes n h = absurd h
over_none (Some m) bytes n h = let over : ltb limit m ≡ true = lt-ltb _ _ h.1 in rw over refl

over_some : (o : Option ℕ) (n : ℕ) → IsOver o n → (o ≡ Some n) × (limit < n)
over_some None n h = absurd h
over_some (Some m) n h = (ap Some h.0, omega arith)

pub front-over : (bytes more : List ℕ) (n : ℕ) → IsOver (length_next bytes) n → front (bytes ++ more) ≡ None
unfolding front
front-over bytes more n h =
    let s = over_some (length_next bytes) n h in
    let l = length_next-more bytes more n s.0 in
    over_none (length_next (bytes ++ more)) (bytes ++ more) n (rw l.1 (refl, s.1))

some_is : (k m : ℕ) → Some k ≡ Some m → k ≡ m
some_is k m e = cc

none_yet : (o : Option ℕ) (bytes : List ℕ) → o ≡ None → (after_length o bytes ≡ None) × ((n : ℕ) → IsOver o n → ⊥)
none_yet None bytes e = (refl, λ n h. h)
none_yet (Some m) bytes e = absurd cc

short_yet : (o : Option ℕ) (bytes : List ℕ) (m : ℕ) → o ≡ Some m → m ≤ limit → length (drop 4 bytes) < m → (after_length o bytes ≡ None) × ((n : ℕ) → IsOver o n → ⊥)
short_yet None bytes m e small lt = absurd cc
short_yet (Some k) bytes m e small lt =
    let same : k ≡ m = some_is k m e in
    let within : ltb limit k ≡ false = le-ltb _ _ (omega arith) in
    let fewer : ltb (length (drop 4 bytes)) k ≡ true = lt-ltb _ _ (omega arith) in
    (rw (within, fewer) refl, λ n h. let lt : limit < k = h.1 in omega arith)

no_some : (o : Option ℕ) → ((x : ℕ) → o ≡ Some x → ⊥) → o ≡ None
no_some None h = refl
no_some (Some x) h = absurd (h x refl)

pub front_part : (bytes : List ℕ) → ((x : ℕ) → length_next bytes ≡ Some x → ⊥) → (front bytes ≡ None) × ((n : ℕ) → IsOver (length_next bytes) n → ⊥)
unfolding front
front_part bytes h = none_yet (length_next bytes) bytes (no_some (length_next bytes) h)

pub front_short : (bytes : List ℕ) (m : ℕ) → length_next bytes ≡ Some m → m ≤ limit → length (drop 4 bytes) < m → (front bytes ≡ None) × ((n : ℕ) → IsOver (length_next bytes) n → ⊥)
unfolding front
front_short bytes m e small lt = short_yet (length_next bytes) bytes m e small lt

pub over_long : (bytes : List ℕ) (n : ℕ) → IsOver (length_next bytes) n → 4 ≤ length bytes
over_long bytes n h = (length_next-more bytes [] n (over_some (length_next bytes) n h).0).0

pick : (a b : Bool) (y x : List ℕ × List ℕ) → cond a None (cond b None (Some y)) ≡ Some x → y ≡ x
pick true b y x e = absurd cc
pick false true y x e = absurd cc
pick false false y x e = cc

-- what stands behind the first payload is shorter
behind_falls : (m : ℕ) (bytes : List ℕ) (x : List ℕ × List ℕ) → payload_and_rest m bytes ≡ Some x → length x.1 ≤ length bytes
behind_falls m bytes x e =
    let k : (take m bytes, drop m bytes) ≡ x = pick (ltb limit m) (ltb (length bytes) m) (take m bytes, drop m bytes) x e in
    subst (λ (y : List ℕ × List ℕ). length y.1 ≤ length bytes) k (omega (arith, length-drop m bytes))

after_falls : (o : Option ℕ) (bytes : List ℕ) (x : List ℕ × List ℕ) → after_length o bytes ≡ Some x → ((n : ℕ) → o ≡ Some n → 4 ≤ length bytes) → length x.1 < length bytes
after_falls None bytes x e h = absurd cc
after_falls (Some m) bytes x e h = let a = behind_falls m (drop 4 bytes) x e in let b = h m refl in omega (arith, length-drop 4 bytes)

pub front_falls : (bytes : List ℕ) (x : List ℕ × List ℕ) → front bytes ≡ Some x → length x.1 < length bytes
unfolding front
front_falls bytes x e = after_falls (length_next bytes) bytes x e (λ n k. (length_next-more bytes [] n k).0)

cut_by_same : (f g : List ℕ → Cut) (bytes : List ℕ) (o : Option (List ℕ × List ℕ)) → ((x : List ℕ × List ℕ) → o ≡ Some x → f x.1 ≡ g x.1) → cut_by f bytes o ≡ cut_by g bytes o
cut_by_same f g bytes None h = refl
cut_by_same f g bytes (Some x) h = ap (λ (c : Cut). cut_by (λ _. c) bytes (Some x)) (h x refl)

front_none : front [] ≡ None
unfolding front length_next
front_none = refl

enough : (m n : ℕ) (bytes : List ℕ) → length bytes ≤ m → length bytes ≤ n → cut_at_most m bytes ≡ cut_at_most n bytes
unfolding cut_at_most
enough zero zero bytes p q = refl
enough zero (suc n) [] p q = rw front_none refl
enough zero (suc n) (b ∷ bytes) p q = absurd (omega arith)
enough (suc m) zero [] p q = rw front_none refl
enough (suc m) zero (b ∷ bytes) p q = absurd (omega arith)
enough (suc m) (suc n) bytes p q =
    cut_by_same (cut_at_most m) (cut_at_most n) bytes (front bytes)
    (λ x e. let lt : length x.1 < length bytes = front_falls bytes x e in enough m n x.1 (omega arith) (omega arith))

again : (n : ℕ) (bytes : List ℕ) → cut_at_most (suc n) bytes ≡ cut_by (cut_at_most n) bytes (front bytes)
unfolding cut_at_most
again n bytes = refl

step : (bytes : List ℕ) → cut_at_most (length bytes) bytes ≡ cut_by (cut_at_most (length bytes)) bytes (front bytes)
step bytes = enough (length bytes) (suc (length bytes)) bytes (omega arith) (omega arith) ∙ again (length bytes) bytes

pub payloads-front : (bytes p rest : List ℕ) → front bytes ≡ Some (p, rest) → (payloads bytes ≡ p ∷ payloads rest) × (rest_of bytes ≡ rest_of rest)
unfolding payloads rest_of
payloads-front bytes p rest e =
    let f = step bytes ∙ ap (cut_by (cut_at_most (length bytes)) bytes) e in
    let lt : length rest < length bytes = front_falls bytes (p, rest) e in
    let k : cut_at_most (length bytes) rest ≡ cut_at_most (length rest) rest = enough (length bytes) (length rest) rest (omega arith) (omega arith) in
    (ap (λ (c : Cut). c.found) f ∙ ap (λ (c : Cut). p ∷ c.found) k, ap (λ (c : Cut). c.left) f ∙ ap (λ (c : Cut). c.left) k)

pub payloads-none : (bytes : List ℕ) → front bytes ≡ None → (payloads bytes ≡ []) × (rest_of bytes ≡ bytes)
unfolding payloads rest_of
payloads-none bytes e =
    let f = step bytes ∙ ap (cut_by (cut_at_most (length bytes)) bytes) e in
    (ap (λ (c : Cut). c.found) f, ap (λ (c : Cut). c.left) f)

pub goes_none : (bytes : List ℕ) → GoesOn bytes [] bytes
goes_none bytes = record { found = λ more. refl; ends = λ more. refl }

pub goes_one : (bytes : List ℕ) (given : List (List ℕ)) (rest p after : List ℕ) → GoesOn bytes given rest → ((more : List ℕ) → front (rest ++ more) ≡ Some (p, after ++ more)) → GoesOn bytes (given ++ p ∷ []) after
goes_one bytes given rest p after g h = record {
  found = λ more. g.found more ∙ ap (λ (ps : List (List ℕ)). given ++ ps) (payloads-front _ _ _ (h more)).0 ∙ sym (append_assoc given (p ∷ []) (payloads (after ++ more)));
  ends = λ more. g.ends more ∙ (payloads-front _ _ _ (h more)).1;
}

not_empty : (xs : List ℕ) → 0 < length xs → xs ≢ []
not_empty [] lt e = absurd (omega arith)
not_empty (x ∷ xs) lt e = absurd cc

pub goes_push : (bytes : List ℕ) (fs : List Frame) (f : Frame) (rest p after : List ℕ) → GoesOn bytes (contents fs) rest → payload_of f ≡ p → ((more : List ℕ) → front (rest ++ more) ≡ Some (p, after ++ more)) → GoesOn bytes (contents (fs ++ f ∷ [])) after
goes_push bytes fs f rest p after g e h =
    let same : contents (fs ++ f ∷ []) ≡ contents fs ++ p ∷ [] = map-append payload_of fs (f ∷ []) ∙ ap (λ (q : List ℕ). contents fs ++ q ∷ []) e in
    rw same (goes_one bytes (contents fs) rest p after g h)

pub told_push : (fs : List Frame) (f : Frame) → AreTold fs → IsTold f → AreTold (fs ++ f ∷ [])
told_push [] f h e = (e, tt)
told_push (g ∷ fs) f h e = (h.0, told_push fs f h.1 e)

-- a length over the limit stays
pub stops_over : (bytes : List ℕ) (given : List (List ℕ)) (rest : List ℕ) (n : ℕ) → GoesOn bytes given rest → IsOver (length_next rest) n → Stops bytes given n
stops_over bytes given rest n g h =
    record {
      found = λ more. g.found more ∙ ap (λ (ps : List (List ℕ)). given ++ ps) (payloads-none _ (front-over rest more n h)).0 ∙ append-nil given;
      ends = λ more e. not_empty (rest ++ more) (omega (arith, length-append rest more, over_long rest n h)) (sym (payloads-none _ (front-over rest more n h)).1 ∙ sym (g.ends more) ∙ e);
      next = λ more. ap length_next (g.ends more ∙ (payloads-none _ (front-over rest more n h)).1) ∙ (length_next-more rest more n (over_some (length_next rest) n h).0).1;
      over = (over_some (length_next rest) n h).1;
    }

pub new_front : front [] ≡ None
new_front = front_none

pub finished : (rest : List ℕ) → front rest ≡ None → (payloads rest ≡ []) × (rest_of rest ≡ rest)
finished rest e = payloads-none rest e

pub not_empty_rest : (rest : List ℕ) → front rest ≡ None → 0 < length rest → rest_of rest ≢ []
not_empty_rest rest e lt k = not_empty rest lt (sym (payloads-none rest e).1 ∙ k)

pub one_falls : (rest p after : List ℕ) → ((more : List ℕ) → front (rest ++ more) ≡ Some (p, after ++ more)) → length after < length rest
one_falls rest p after h =
    let lt : length (after ++ []) < length (rest ++ []) = front_falls (rest ++ []) (p, after ++ []) (h []) in
    omega (arith, ap length (append-nil after), ap length (append-nil rest))

pub empty_front : (payloads [] ≡ []) × (rest_of [] ≡ [])
empty_front = payloads-none [] front_none

pub empty_rest : (xs : List ℕ) → length xs ≡ 0 → rest_of xs ≡ []
empty_rest [] e = empty_front.1
empty_rest (x ∷ xs) e = absurd (omega arith)

-- one more whole frame of some bytes
pub split_step : (bytes : List ℕ) (fs : List Frame) (f : Frame) (used n : ℕ) → GoesOn bytes (contents fs) (drop used bytes)
    → payload_of f ≡ take n (drop (used + 4) bytes) → ((more : List ℕ) → front (drop used bytes ++ more) ≡ Some (take n (drop 4 (drop used bytes)), drop n (drop 4 (drop used bytes)) ++ more))
    → GoesOn bytes (contents (fs ++ f ∷ [])) (drop (used + (4 + n)) bytes)
split_step bytes fs f used n g e h =
    let after : drop n (drop 4 (drop used bytes)) ≡ drop (used + (4 + n)) bytes = ap (drop n) (drop-drop 4 used bytes) ∙ drop-drop n (used + 4) bytes ∙ ap (λ k. drop k bytes) (omega arith) in
    let text : payload_of f ≡ take n (drop 4 (drop used bytes)) = e ∙ ap (take n) (sym (drop-drop 4 used bytes)) in
    subst (λ (r : List ℕ). GoesOn bytes (contents (fs ++ f ∷ [])) r) after (goes_push bytes fs f (drop used bytes) (take n (drop 4 (drop used bytes))) (drop n (drop 4 (drop used bytes))) g text h)
