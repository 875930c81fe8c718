-- What is read at a node: the place of a key among its branches, and the entry that comes first.
use Rattle.std.proofs.Common.{None, Some, slice_get, get_or, add-one, ◌≡◌, ◌≤◌, ◌<◌, ℕ, zero, suc, ◌+◌, length, length-append, List, [], ◌∷◌, ◌++◌, drop, sym, ap, ◌∙◌, arith}
use Rattle.std.proofs.Math.Seq.{get_or-append_seam, drop-append_seam}
use Rattle.std.specs.declared.cmp.Ordering.{Ordering}
use Rattle.std.specs.declared.cmp.Ordering.TheVariants.{Equal}
use Rattle.std.specs.Cmp.{IsTotalOrder}
use Rattle.tab_map.specs.declared.Branch.{Branch}
use Rattle.tab_map.specs.Ahead.{behind}
use Rattle.tab_map.specs.Entries.{lookup, entries_above}
use Rattle.tab_map.specs.InOrder.{spread, separators}
use Rattle.tab_map.specs.Places.{HasAt, IsGap}
use Rattle.tab_map.proofs.EntriesLemmas.{lookup_equal, above_less, above_equal}
use Rattle.tab_map.proofs.PlacesLemmas.{get_next, drop_next}
use Rattle.tab_map.proofs.SpreadLemmas.{IsRoot, AtBranch, Found, past_lookup, past_above, found_branch, child_branch, last_child, none_left}

module _ {K V : Type 0} where
  -- what is below the first branch, and behind that
  pub spread_first : (bs : List (Branch K V)) (m : List (K × V)) (b : Branch K V) → slice_get bs 0 ≡ Some b → spread bs m ≡ b.below ++ behind bs m
  spread_first [] m b p = absurd (cc)
  spread_first (x ∷ bs) m b p = let q : x ≡ b = cc in ap (λ z. z.below ++ x.entry ∷ spread bs m) q

  pub get_first : (bs : List (Branch K V)) (b : Branch K V) → 1 ≤ length bs → b ≡ get_or bs 0 b → slice_get bs 0 ≡ Some b
  get_first [] b some p = absurd (omega (arith, some))
  get_first (x ∷ bs) b some p = ap (λ z. Some z) (sym p)

  pub get_within : (bs : List (Branch K V)) (n : ℕ) (b : Branch K V) → slice_get bs n ≡ Some b → n < length bs
  get_within [] n b p = absurd (cc)
  get_within (x ∷ bs) zero b p = omega arith
  get_within (x ∷ bs) (suc n) b p = omega (arith, get_within bs n b p)

  -- a child has fewer entries than its node
  pub below_fewer : (bs : List (Branch K V)) (n : ℕ) (m : List (K × V)) (b : Branch K V) → slice_get bs n ≡ Some b → length b.below < length (spread bs m)
  below_fewer [] n m b p = absurd (cc)
  below_fewer (x ∷ bs) zero m b p = let q : x ≡ b = cc in omega (arith, length-append x.below (x.entry ∷ spread bs m), ap (λ z. length z.below) q)
  below_fewer (x ∷ bs) (suc n) m b p = omega (arith, length-append x.below (x.entry ∷ spread bs m), below_fewer bs n m b p)

  pub last_fewer : (bs : List (Branch K V)) (m : List (K × V)) → length bs + length m ≤ length (spread bs m)
  last_fewer [] m = omega arith
  last_fewer (b ∷ bs) m = omega (arith, length-append b.below (b.entry ∷ spread bs m), last_fewer bs m)

module _ {K V : Type 0} {cmp : K → K → Ordering} (o : IsTotalOrder cmp) (k : K) {d : List (K × V)} {bs : List (Branch K V)} {m : List (K × V)} (root : IsRoot cmp d bs m) where
  found_is : (n : ℕ) (b : Branch K V) (h : Found cmp k bs n m) → b ≡ get_or bs n b → b ≡ h.branch
  found_is n b h p = p ∙ ap (λ z. get_or z n b) h.place.is ∙ ap (λ i. get_or (h.place.before ++ h.branch ∷ h.place.after) i b) (sym h.place.count) ∙ get_or-append_seam h.place.before h.branch h.place.after b

  pub found_lookup : (n : ℕ) (b : Branch K V) → HasAt cmp k (separators bs) n → b ≡ get_or bs n b → Some b.entry.1 ≡ lookup cmp k d
  found_lookup n b f p =
      let h = found_branch o k bs n m f root.sorted in
      ap (λ z. Some z.entry.1) (found_is n b h p)
      ∙ sym (ap (lookup cmp k) (root.is ∙ h.place.whole) ∙ past_lookup o k h.place.before (spread (h.branch ∷ h.place.after) m) h.place.passes h.place.sorted ∙ lookup_equal o k h.place.node h.equal)

  -- the branches from n on
  at_rest : (n : ℕ) (b : Branch K V) (h : AtBranch cmp k bs n m b) → drop n bs ≡ b ∷ h.after
  at_rest n b h = ap (drop n) h.is ∙ ap (λ i. drop i (h.before ++ b ∷ h.after)) (sym h.count) ∙ drop-append_seam h.before (b ∷ h.after)

  found_above : (n : ℕ) (b : Branch K V) (h : AtBranch cmp k bs n m b) → cmp k b.entry.0 ≡ Equal → entries_above cmp k d ≡ spread h.after m
  found_above n b h q = ap (entries_above cmp k) (root.is ∙ h.whole) ∙ past_above o k h.before (spread (b ∷ h.after) m) h.passes h.sorted ∙ above_equal o k h.node q

  after_get : (n : ℕ) (b : Branch K V) (h : AtBranch cmp k bs n m b) → slice_get bs (n + 1) ≡ slice_get h.after 0
  after_get n b h =
      ap (slice_get bs) (add-one n) ∙ ap (λ z. slice_get z (suc n)) h.is ∙ ap (λ i. slice_get (h.before ++ b ∷ h.after) (suc i)) (sym h.count)
      ∙ get_next h.before b h.after

  after_rest : (n : ℕ) (b : Branch K V) (h : AtBranch cmp k bs n m b) → drop (n + 1) bs ≡ h.after
  after_rest n b h = ap (λ i. drop i bs) (add-one n) ∙ ap (drop (suc n)) h.is ∙ ap (λ i. drop (suc i) (h.before ++ b ∷ h.after)) (sym h.count) ∙ drop_next h.before b h.after

  pub next_above_found : (n : ℕ) (b : Branch K V) → HasAt cmp k (separators bs) n → slice_get bs (n + 1) ≡ Some b → entries_above cmp k d ≡ b.below ++ behind (drop (n + 1) bs) m
  next_above_found n b f p =
      let h = found_branch o k bs n m f root.sorted in
      found_above n h.branch h.place h.equal ∙ spread_first h.place.after m b (sym (after_get n h.branch h.place) ∙ p)
      ∙ ap (λ z. b.below ++ behind z m) (sym (after_rest n h.branch h.place))

  pub last_above_found : (n : ℕ) → HasAt cmp k (separators bs) n → slice_get bs (n + 1) ≡ None → entries_above cmp k d ≡ m
  last_above_found n f p =
      let h = found_branch o k bs n m f root.sorted in
      found_above n h.branch h.place h.equal ∙ ap (λ z. spread z m) (none_left h.place.after (sym (after_get n h.branch h.place) ∙ p))

  pub child_above : (n : ℕ) (b : Branch K V) → IsGap cmp k (separators bs) n → slice_get bs n ≡ Some b → entries_above cmp k d ≡ entries_above cmp k b.below ++ behind (drop n bs) m
  child_above n b f p =
      let h = child_branch k bs n m b f p root.sorted in
      ap (entries_above cmp k) (root.is ∙ h.0.whole) ∙ past_above o k h.0.before (spread (b ∷ h.0.after) m) h.0.passes h.0.sorted ∙ above_less k h.0.node h.1
      ∙ ap (λ z. entries_above cmp k b.below ++ behind z m) (sym (at_rest n b h.0))

  pub last_above : (n : ℕ) → IsGap cmp k (separators bs) n → slice_get bs n ≡ None → entries_above cmp k d ≡ entries_above cmp k m
  last_above n f p = ap (entries_above cmp k) root.is ∙ past_above o k bs m (last_child k bs n f p) root.sorted
