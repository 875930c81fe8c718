-- Sorted keys: the first that stands there twice, and the ranks of their pairs.
use Rattle.std.proofs.Common.{◌≡◌, ◌≢◌, ◌⊎◌, inl, inr, ℕ, ◌+◌, ◌-◌, ◌<◌, ◌≤◌, true, false, nat_le, if◌then◌else◌, leb-true, leb-false, List, length, get_or, set, AllPairs, Option, Some, None, get_or-set_same, get_or-set_other, refl, sym, ap, ◌∙◌, arith}
use Rattle.std.proofs.lemmas.Bool.{cases_eq}
use Rattle.std.proofs.lemmas.List.{get_or_default, get_or-map, length-map}
use Rattle.tab_term.specs.declared.term.Term.{Term}
use Rattle.tab_etf.specs.declared.run.Key.{Key}
use Rattle.tab_etf.specs.Keyed.{spelling_at, earlier, IsTwiceAt, IsFirstTwice, IsOrder, AreRanks, AreRanked, no_terms, picked}
use Rattle.tab_etf.proofs.Exchanges.{IsRankedBy}

abbrev pub no_key : Key
no_key = record { start = 0; end = 0; left = 0; pair = 0 }

-- ---- the first key that stands there twice

module _ (s : List ℕ) (ks : List Key) (i : ℕ) (some : 0 < i) where
  pub twice_at : (c : Key) → i < length ks → spelling_at s (get_or ks (i - 1) c) ≡ spelling_at s (get_or ks i c) → IsTwiceAt s ks (i - 1)
  twice_at c h e d =
      let at : i - 1 + 1 ≡ i = omega arith in
      rw (at, get_or_default ks (i - 1) d c (omega arith), get_or_default ks i d c h) e

  pub not_twice_at : (c : Key) → (spelling_at s (get_or ks (i - 1) c) ≡ spelling_at s (get_or ks i c) → ⊥) → IsTwiceAt s ks (i - 1) → ⊥
  not_twice_at c n t = let at : i - 1 + 1 ≡ i = omega arith in n (t c ∙ ap (λ p. spelling_at s (get_or ks p c)) at)

  at_or_before : (p : ℕ) → p + 1 < i + 1 → (p ≡ i - 1) ⊎ (p + 1 < i)
  at_or_before p h = elim (cases_eq p (i - 1)) [ inl e ↦ inl e | inr n ↦ inr (omega arith) ]

  pub twice_less : (r : Option Key) → (IsTwiceAt s ks (i - 1) → ⊥) → IsFirstTwice s ks i r → IsFirstTwice s ks (i + 1) r
  twice_less None n f = λ p h t. elim (at_or_before p h) [ inl e ↦ n (λ d. rw (← e) (t d)) | inr b ↦ f p b t ]
  twice_less (Some k) n f = (
    (f.0.0, omega (arith, f.0.1), f.0.2, f.0.3),
    λ p d h t. elim (at_or_before p h) [ inl e ↦ absurd (n (λ d. rw (← e) (t d))) | inr b ↦ f.1 p d b t ],
  )

  module _ (k : Key) (t : IsTwiceAt s ks (i - 1)) (here : (d : Key) → get_or ks i d ≡ k) where
    key_at : (p : ℕ) → p ≡ i - 1 → (d : Key) → get_or ks (p + 1) d ≡ k
    key_at p e d = let at : p + 1 ≡ i = omega arith in rw at (here d)

    pub twice_more : (r : Option Key) → IsFirstTwice s ks i r → IsFirstTwice s ks (i + 1) (Some (earlier r k))
    twice_more None f = (
      (i - 1, omega arith, t, key_at (i - 1) refl),
      λ p d h u. elim (at_or_before p h) [ inl e ↦ rw (key_at p e d) (omega arith) | inr b ↦ absurd (f p b u) ],
    )
    twice_more (Some l) f = elim (nat_le l.pair k.pair) as (λ b. nat_le l.pair k.pair ≡ b → IsFirstTwice s ks (i + 1) (Some (if b then l else k))) [
      | true ↦ λ le. (
        (f.0.0, omega (arith, f.0.1), f.0.2, f.0.3),
        λ p d h u. elim (at_or_before p h) [ inl e ↦ rw (key_at p e d) (leb-true l.pair k.pair le) | inr b ↦ f.1 p d b u ],
      )
      | false ↦ λ le. (
        (i - 1, omega arith, t, key_at (i - 1) refl),
        λ p d h u. elim (at_or_before p h) [ inl e ↦ rw (key_at p e d) (omega arith) | inr b ↦ omega (arith, f.1 p d b u, leb-false l.pair k.pair le) ],
      )
    ] refl

-- ---- ranks

module _ (ks : List Key) (ranks : List ℕ) where
  pub ranks_more : (i : ℕ) (c : Key) → AllPairs (λ k l. k.pair ≢ l.pair) ks → length ranks ≡ length ks → i < length ks → (get_or ks i c).pair < length ks
      → ((p : ℕ) (d : Key) → p < i → get_or ranks (get_or ks p d).pair 0 ≡ p) → (p : ℕ) (d : Key) → p < i + 1 → get_or (set ranks (get_or ks i c).pair i) (get_or ks p d).pair 0 ≡ p
  ranks_more i c distinct len h b before p d l = elim (cases_eq p i) [
    | inl e ↦ rw (e, get_or_default ks i d c h) (get_or-set_same ranks (get_or ks i c).pair i 0 (omega arith))
    | inr n ↦
        let other : (get_or ks p d).pair ≢ (get_or ks i c).pair = λ q. distinct p i d (omega arith) h (q ∙ ap (λ (k : Key). k.pair) (get_or_default ks i c d h)) in
        get_or-set_other ranks (get_or ks i c).pair (get_or ks p d).pair i 0 other ∙ before p d (omega arith)
  ]

module _ (ks : List Key) (n : ℕ) (o : IsOrder ks n) (ranks : List ℕ) (r : AreRanks ks ranks) where
  rank_of : (k : ℕ) → k < n → (p : ℕ) × (p < n) × ((d : Key) → (get_or ks p d).pair ≡ k) × (get_or ranks k 0 ≡ p)
  rank_of k h =
      let w = o.whole k h in
      let at = w.2 no_key in
      (w.0, w.1, w.2, ap (λ i. get_or ranks i 0) (sym at) ∙ r.at_key w.0 no_key (omega (arith, w.1, o.len)))

  pub are_ranked : AreRanked ranks
  are_ranked =
      let len : length ranks ≡ n = r.len ∙ o.len in
      record {
        below = λ k h. let w = rank_of k (omega arith) in omega (arith, w.3, w.1);
        distinct = λ j k h g e.
            let v = rank_of j (omega arith) in
            let w = rank_of k (omega arith) in
            let same : v.0 ≡ w.0 = sym v.3 ∙ e ∙ w.3 in
            sym (v.2 no_key) ∙ ap (λ p. (get_or ks p no_key).pair) same ∙ w.2 no_key;
      }

  pub ranked_by : (ps : List (Term × Term)) → length ps ≡ n → IsRankedBy (picked ps ks) ranks ps
  ranked_by ps len k d h =
      let w = rank_of k (omega arith) in
      let inside : w.0 < length ks = omega (arith, w.1, o.len) in
      ap (λ p. get_or (picked ps ks) p d) w.3 ∙ get_or-map (λ (l : Key). get_or ps l.pair no_terms) ks w.0 no_key d inside ∙ ap (λ i. get_or ps i no_terms) (w.2 no_key) ∙ get_or_default ps k no_terms d h

pub picked_length : (ps : List (Term × Term)) (ks : List Key) (n : ℕ) → IsOrder ks n → length (picked ps ks) ≡ n
picked_length ps ks n o = length-map ks (λ (l : Key). get_or ps l.pair no_terms) ∙ o.len

pub twice_end : (s : List ℕ) (ks : List Key) (i : ℕ) (r : Option Key) → (length ks ≤ i) × (i ≤ 1 + length ks) × (1 ≤ length ks → i ≤ length ks) → IsFirstTwice s ks i r → IsFirstTwice s ks (length ks) r
twice_end s ks i None h f = λ p l t. f p (omega arith) t
twice_end s ks i (Some k) h f = ((f.0.0, omega (arith, f.0.1), f.0.2, f.0.3), λ p d l t. f.1 p d (omega arith) t)
