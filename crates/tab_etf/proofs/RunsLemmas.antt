-- Entries put to the pairs one by one, and sorted at once.
use Rattle.std.proofs.Common.{◌≡◌, ◌≢◌, ◌⊎◌, inl, inr, ℕ, zero, suc, ◌<◌, ◌≤◌, Bool, true, false, ◌||◌, nat_lt, ltb-true, lt-ltb, pos, List, [], ◌∷◌, ◌++◌, length, get_or, drop, drop-cons, AllPairs, Result, Ok, Err, if◌then◌else◌, refl, sym, ap, ◌∙◌, arith}
use Rattle.std.specs.declared.cmp.Ordering.TheVariants.{Less}
use Rattle.std.proofs.lemmas.Bool.Decides.{nat_tests}
use Rattle.tab_term.specs.Data.{PlainTerm, int, PlainPairs, no_pair, one_pair}
use Rattle.tab_term.specs.Same.{same, same-Decides}
use Rattle.tab_etf.specs.declared.fault.Fault.TheVariants as faults
use Rattle.tab_etf.specs.declared.fault.Stop.{Stop}
use Rattle.tab_etf.specs.declared.fault.ReadError.{ReadError}
use Rattle.tab_etf.specs.declared.fault.ReadError.TheVariants as errors
use Rattle.tab_etf.specs.declared.run.Key.{Key}
use Rattle.tab_etf.specs.declared.run.Run.{Run}
use Rattle.tab_etf.specs.Keys.{key_cmp, AllAbove, KeysAscend, HasOneMore, here, later, has_key, put_pair}
use Rattle.tab_etf.specs.Reading.{◌>>=◌, Fails, stop}
use Rattle.tab_etf.specs.Runs.{Entry, put_all, IsFirstFault, Ran}
use Rattle.tab_etf.proofs.KeysLemmas.{more_new, put_more}

-- ---- what comes behind the entries

pub put_all_same : {A : Type 0} (ps : PlainPairs) (es : List Entry) (f g : PlainPairs → Result A Stop) → ((qs : PlainPairs) → f qs ≡ g qs) → put_all ps es f ≡ put_all ps es g
put_all_same ps [] f g h = h ps
put_all_same ps (e ∷ es) f g h = ap (λ r. if has_key e.0 ps then stop faults.DuplicateKey e.2 else r) (put_all_same (put_pair e.0 e.1 ps) es f g h)

pub put_all_more : {A : Type 0} (ps : PlainPairs) (es : List Entry) (e : Entry) (f : PlainPairs → Result A Stop) → put_all ps es (λ qs. put_all qs (e ∷ []) f) ≡ put_all ps (es ++ e ∷ []) f
put_all_more ps [] e f = refl
put_all_more ps (d ∷ es) e f = ap (λ r. if has_key d.0 ps then stop faults.DuplicateKey d.2 else r) (put_all_more (put_pair d.0 d.1 ps) es e f)

pub put_all_then : {A B : Type 0} (ps : PlainPairs) (es : List Entry) (f : PlainPairs → Result A Stop) (g : A → Result B Stop) → put_all ps es (λ qs. f qs >>= g) ≡ (put_all ps es f >>= g)
put_all_then ps [] f g = refl
put_all_then ps (e ∷ es) f g =
    let others = put_all_then (put_pair e.0 e.1 ps) es f g in
    elim (has_key e.0 ps) as (λ b. (if b then stop faults.DuplicateKey e.2 else put_all (put_pair e.0 e.1 ps) es (λ qs. f qs >>= g)) ≡ ((if b then stop faults.DuplicateKey e.2 else put_all (put_pair e.0 e.1 ps) es f) >>= g)) [
      | true ↦ refl
      | false ↦ others
    ]

-- what the pairs alone tell, of them and the bytes behind them
module _ {A : Type 0} (es : List Entry) (after : A) (answer : Result (PlainPairs × A) Stop) (all : answer ≡ put_all no_pair es (λ ps. Ok (ps, after))) where
  in_two : answer ≡ (put_all no_pair es (λ ps. Ok ps) >>= λ ps. Ok (ps, after))
  in_two = all ∙ put_all_then no_pair es (λ ps. Ok ps) (λ ps. Ok (ps, after))

  pub answer_is : (ps : PlainPairs) → put_all no_pair es (λ ps. Ok ps) ≡ Ok ps → answer ≡ Ok (ps, after)
  answer_is ps e = in_two ∙ ap (λ r. r >>= λ ps. Ok (ps, after)) e

  pub answer_fails : (e : ReadError) → Fails e (put_all no_pair es (λ ps. Ok ps)) → Fails e answer
  answer_fails errors.Memory f = tt
  answer_fails (errors.At s) f = in_two ∙ ap (λ r. r >>= λ ps. Ok (ps, after)) f

pub answer_stops : {A : Type 0} (es : List Entry) (at first : Stop) (answer : Result A Stop) → answer ≡ put_all no_pair es (λ ps. Err at) → IsFirstFault es at first → answer ≡ Err first
answer_stops es at first answer all f = all ∙ put_all_then no_pair es (λ ps. Err at) (λ (ps : PlainPairs). Err first) ∙ ap (λ r. r >>= λ (ps : PlainPairs). Err first) f

-- an error says the same of the bytes, however they are lent
pub in_bytes : {X : Type 0} (view : X → List ℕ) (run : Run) (e : ReadError) (answer : Result (PlainPairs × List ℕ) Stop) → Ran view run (Err e) answer → Ran (λ (x : List ℕ). x) run (Err e) answer
in_bytes view run errors.Memory answer h = tt
in_bytes view run (errors.At s) answer h = h

-- ---- sorted keys, of which those of a number below m are kept

abbrev pub no_entry : Entry
no_entry = (int (pos 0), int (pos 0), 0)

-- the first key is below the second, or the second has a number of m or more
abbrev pub IsApart : (ℕ → Entry) → ℕ → Key → Key → Type 0
IsApart g m k l = (key_cmp (g k.pair).0 (g l.pair).0 ≡ Less) ⊎ (m ≤ l.pair)

abbrev pub kept : (ℕ → Entry) → ℕ → List Key → PlainPairs
kept g m [] = no_pair
kept g m (k ∷ ks) = if nat_lt k.pair m then one_pair (g k.pair).0 (g k.pair).1 (kept g m ks) else kept g m ks

module _ {X : Type 0} (R : X → X → Type 0) (x : X) (xs : List X) (a : AllPairs R (x ∷ xs)) where
  pairs_head : (q : ℕ) (d : X) → q < length xs → R x (get_or xs q d)
  pairs_head q d h = a 0 (suc q) d (omega arith) (omega arith)

  pairs_tail : AllPairs R xs
  pairs_tail i j d h l = a (suc i) (suc j) d (omega arith) (omega arith)

module _ (g : ℕ → Entry) where
  less_of : (m : ℕ) (k l : Key) → nat_lt l.pair m ≡ true → IsApart g m k l → key_cmp (g k.pair).0 (g l.pair).0 ≡ Less
  less_of m k l e (inl h) = h
  less_of m k l e (inr h) = absurd (omega (arith, ltb-true l.pair m e))

  above : (m : ℕ) (k : Key) (ls : List Key) → ((q : ℕ) (d : Key) → q < length ls → IsApart g m k (get_or ls q d)) → AllAbove (g k.pair).0 (kept g m ls)
  above m k [] h = tt
  above m k (l ∷ ls) h =
      let others = above m k ls (λ q d i. h (suc q) d (omega arith)) in
      elim (nat_lt l.pair m) as (λ b. nat_lt l.pair m ≡ b → AllAbove (g k.pair).0 (if b then one_pair (g l.pair).0 (g l.pair).1 (kept g m ls) else kept g m ls)) [
        | true ↦ λ e. (less_of m k l e (h 0 k (omega arith)), others)
        | false ↦ λ e. others
      ] refl

  kept_ascends : (m : ℕ) (ks : List Key) → AllPairs (IsApart g m) ks → KeysAscend (kept g m ks)
  kept_ascends m [] a = tt
  kept_ascends m (k ∷ ks) a =
      let others = kept_ascends m ks (pairs_tail (IsApart g m) k ks a) in
      elim (nat_lt k.pair m) as (λ b. KeysAscend (if b then one_pair (g k.pair).0 (g k.pair).1 (kept g m ks) else kept g m ks)) [
        | true ↦ (above m k ks (pairs_head (IsApart g m) k ks a), others)
        | false ↦ others
      ]

  not_less : (i : ℕ) → nat_lt i i ≡ false
  not_less i = grind (arith, nat_tests)

  is_less : (i : ℕ) → nat_lt i (suc i) ≡ true
  is_less i = grind (arith, nat_tests)

  same_less : (i m : ℕ) → i ≢ m → nat_lt i (suc m) ≡ nat_lt i m
  same_less i m n = grind (arith, nat_tests)

  kept_same : (m : ℕ) (ks : List Key) → ((q : ℕ) (d : Key) → q < length ks → (get_or ks q d).pair ≢ m) → kept g (suc m) ks ≡ kept g m ks
  kept_same m [] h = refl
  kept_same m (k ∷ ks) h =
      let one = same_less k.pair m (h 0 k (omega arith)) in
      let others = kept_same m ks (λ q d i. h (suc q) d (omega arith)) in
      rw (one, others) refl

  -- one more is kept
  kept_more : (m : ℕ) (ks : List Key) → AllPairs (λ k l. k.pair ≢ l.pair) ks → (p : ℕ) (d : Key) → p < length ks → (get_or ks p d).pair ≡ m → HasOneMore (g m).0 (g m).1 (kept g m ks) (kept g (suc m) ks)
  kept_more m [] a p d h e = absurd (omega arith)
  kept_more m (k ∷ ks) a zero d h e =
      let others = kept_same m ks (λ q c i s. pairs_head (λ k l. k.pair ≢ l.pair) k ks a q c i (e ∙ sym s)) in
      rw (← e) (rw (not_less k.pair, is_less k.pair) (rw (e, others) here))
  kept_more m (k ∷ ks) a (suc p) d h e =
      let others = kept_more m ks (pairs_tail (λ k l. k.pair ≢ l.pair) k ks a) p d (omega arith) e in
      let one = same_less k.pair m (λ s. pairs_head (λ k l. k.pair ≢ l.pair) k ks a p d (omega arith) (s ∙ sym e)) in
      rw one (elim (nat_lt k.pair m) as (λ b. HasOneMore (g m).0 (g m).1 (if b then one_pair (g k.pair).0 (g k.pair).1 (kept g m ks) else kept g m ks) (if b then one_pair (g k.pair).0 (g k.pair).1 (kept g (suc m) ks) else kept g (suc m) ks)) [
        | true ↦ later others
        | false ↦ others
      ])

  kept_none : (ks : List Key) → kept g 0 ks ≡ no_pair
  kept_none [] = refl
  kept_none (k ∷ ks) = let e : nat_lt k.pair 0 ≡ false = grind (arith, nat_tests) in rw e (kept_none ks)

  either : (p q : Bool) → q ≡ true → (p || q) ≡ true
  either true q e = refl
  either false q e = e

  -- a key of a lower number is kept
  pub kept_has : (m : ℕ) (t : PlainTerm) (ks : List Key) (p : ℕ) (d : Key) → p < length ks → (get_or ks p d).pair < m → (g (get_or ks p d).pair).0 ≡ t → has_key t (kept g m ks) ≡ true
  kept_has m t [] p d h l e = absurd (omega arith)
  kept_has m t (k ∷ ks) zero d h l e =
      let s : same t (g k.pair).0 ≡ true = (same-Decides t (g k.pair).0).1 (sym e) in
      let b : nat_lt k.pair m ≡ true = lt-ltb _ _ l in
      rw (b, s) refl
  kept_has m t (k ∷ ks) (suc p) d h l e =
      let others = kept_has m t ks p d (omega arith) l e in
      elim (nat_lt k.pair m) as (λ b. has_key t (if b then one_pair (g k.pair).0 (g k.pair).1 (kept g m ks) else kept g m ks) ≡ true) [
        | true ↦ either (same t (g k.pair).0) (has_key t (kept g m ks)) others
        | false ↦ others
      ]

-- ---- entries beside sorted keys

abbrev pub entry_at : List Entry → ℕ → Entry
entry_at es i = get_or es i no_entry

lower : (g : ℕ → Entry) (m : ℕ) (k l : Key) → IsApart g (suc m) k l → IsApart g m k l
lower g m k l (inl h) = inl h
lower g m k l (inr h) = inr (omega arith)

module _ {A : Type 0} (es : List Entry) (ks : List Key) (go_on : PlainPairs → Result A Stop) (distinct : AllPairs (λ k l. k.pair ≢ l.pair) ks)
    (whole : (i : ℕ) → i < length es → (p : ℕ) × (p < length es) × ((d : Key) → (get_or ks p d).pair ≡ i)) (len : length ks ≡ length es) where
  -- the first m entries are put as these keys have them
  pub puts : (m : ℕ) → m ≤ length es → AllPairs (IsApart (entry_at es) m) ks → put_all no_pair es go_on ≡ put_all (kept (entry_at es) m ks) (drop m es) go_on
  puts zero h a = rw (kept_none (entry_at es) ks) refl
  puts (suc m) h a =
      let g = entry_at es in
      let b = λ (i j : ℕ) (d : Key) (s : i < j) (t : j < length ks). lower g m (get_or ks i d) (get_or ks j d) (a i j d s t) in
      let before = puts m (omega arith) b in
      let w = whole m (omega arith) in
      let here_it_is : w.0 < length ks = omega (arith, w.1) in
      let k : Key = record { start = 0; end = 0; left = 0; pair = 0 } in
      let more = kept_more g m ks distinct w.0 k here_it_is (w.2 k) in
      let up = kept_ascends g (suc m) ks a in
      before ∙ rw (drop-cons es m no_entry, more_new more up, put_more more up) refl
