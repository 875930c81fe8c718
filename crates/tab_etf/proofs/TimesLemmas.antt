-- Reading terms one after the other, as a loop does.
use Rattle.std.proofs.Common.{◌≡◌, ℕ, suc, ◌-◌, ◌+◌, ◌≤◌, ◌<◌, List, [], ◌∷◌, ◌++◌, Result, Ok, Err, refl, sym, ap, ◌∙◌, arith}
use Rattle.tab_term.specs.declared.term.Term.{Term}
use Rattle.tab_term.specs.Data.{PlainTerms, none, one_more}
use Rattle.tab_term.specs.View.{term, terms}
use Rattle.tab_etf.specs.declared.fault.Stop.{Stop}
use Rattle.tab_etf.specs.declared.fault.ReadError.{ReadError}
use Rattle.tab_etf.specs.declared.fault.ReadError.TheVariants as errors
use Rattle.tab_etf.specs.Reading.{◌>>=◌, Fails, Reads, times}

abbrev pub join : PlainTerms → PlainTerms → PlainTerms
join none us = us
join (one_more t ts) us = one_more t (join ts us)

join-none : (ts : PlainTerms) → join ts none ≡ ts
join-none none = refl
join-none (one_more t ts) = ap (one_more t) (join-none ts)

join-push : (xs : List Term) (x : Term) (us : PlainTerms) → join (terms (xs ++ x ∷ [])) us ≡ join (terms xs) (one_more (term x) us)
join-push [] x us = refl
join-push (y ∷ ys) x us = ap (one_more (term y)) (join-push ys x us)

-- what was read before, and what is still read
abbrev pub with_front : PlainTerms → Result (PlainTerms × List ℕ) Stop → Result (PlainTerms × List ℕ) Stop
with_front front read = read >>= λ x. Ok (join front x.0, x.1)

regroup : (front : List Term) (x : Term) (read : Result (PlainTerms × List ℕ) Stop) → with_front (terms front) (read >>= λ r. Ok (one_more (term x) r.0, r.1)) ≡ with_front (terms (front ++ x ∷ [])) read
regroup front x (Ok r) = ap (λ ts. Ok (ts, r.1)) (sym (join-push front x r.0))
regroup front x (Err f) = refl

module _ (read : Reads) (count i : ℕ) (bytes : List ℕ) (total : Result (PlainTerms × List ℕ) Stop) where
  pub goes_on : (front : List Term) (x : Term) (after : List ℕ) → i < count → read bytes ≡ Ok (term x, after)
      → with_front (terms front) (times read (count - i) bytes) ≡ total → with_front (terms (front ++ x ∷ [])) (times read (count - (i + 1)) after) ≡ total
  unfolding times
  goes_on front x after lt h so_far =
      let k : count - i ≡ suc (count - (i + 1)) = omega arith in
      let one : with_front (terms front) (times read (count - i) bytes) ≡ with_front (terms (front ++ x ∷ [])) (times read (count - (i + 1)) after) = rw (k, h) (regroup front x (times read (count - (i + 1)) after)) in
      sym one ∙ so_far

  pub ends : (e : ReadError) (front : PlainTerms) → i < count → Fails e (read bytes) → with_front front (times read (count - i) bytes) ≡ total → Fails e total
  unfolding times
  ends errors.Memory front lt h so_far = tt
  ends (errors.At f) front lt h so_far =
      let k : count - i ≡ suc (count - (i + 1)) = omega arith in
      let one : with_front front (times read (count - i) bytes) ≡ Err f = rw (k, h) refl in
      sym so_far ∙ one

  pub is_done : (front : PlainTerms) → count ≤ i → with_front front (times read (count - i) bytes) ≡ total → total ≡ Ok (front, bytes)
  unfolding times
  is_done front le so_far =
      let k : count - i ≡ 0 = omega arith in
      let one : with_front front (times read (count - i) bytes) ≡ Ok (front, bytes) = rw k (ap (λ ts. Ok (ts, bytes)) (join-none front)) in
      sym so_far ∙ one
