-- A node from which an entry is taken: that of a branch, or the last of all.
use Rattle.std.proofs.Common.{Option, None, Some, slice_set, get_or, ◌≡◌, ℕ, zero, suc, ◌<◌, List, [], ◌∷◌, ◌++◌, length, append_assoc, MatchOption, refl, sym, ap, ◌∙◌, subst, arith}
use Rattle.std.proofs.lemmas.List.{get_or-set_same}
use Rattle.std.specs.List.{remove}
use Rattle.std.specs.declared.cmp.Ordering.{Ordering}
use Rattle.tab_map.specs.declared.Branch.{Branch}
use Rattle.tab_map.specs.Entries.{AllAbove, Ascends}
use Rattle.tab_map.specs.InOrder.{spread}
use Rattle.tab_map.proofs.SpreadLemmas.{spread-onto, without_entry}
use Rattle.tab_map.proofs.SplitLemmas.{spread_halves}
use Rattle.tab_map.proofs.AscendsLemmas.{ascends_front}

pub remove_set : {A : Type 0} (xs : List A) (n : ℕ) (x : A) → remove (slice_set xs n x) n ≡ remove xs n
remove_set [] n x = refl
remove_set (y ∷ xs) zero x = refl
remove_set (y ∷ xs) (suc n) x = ap (λ z. y ∷ z) (remove_set xs n x)

set_set : {A : Type 0} (xs : List A) (n : ℕ) (x y : A) → slice_set (slice_set xs n x) n y ≡ slice_set xs n y
set_set [] n x y = refl
set_set (z ∷ xs) zero x y = refl
set_set (z ∷ xs) (suc n) x y = ap (λ w. z ∷ w) (set_set xs n x y)

-- the entries around the one of a branch
record Around {K V : Type 0} (n : ℕ) (bs : List (Branch K V)) (m : List (K × V)) : Type 0 where
  pub before : List (K × V)
  pub entry : K × V
  pub after : List (K × V)
  pub whole : spread bs m ≡ before ++ entry ∷ after
  pub rest : without_entry n bs m ≡ before ++ after

module _ {K V : Type 0} where
  around : (n : ℕ) (bs : List (Branch K V)) (m : List (K × V)) → n < length bs → Around n bs m
  around n [] m h = absurd (omega (arith, h))
  around zero (b ∷ bs) m h = record { before = b.below; entry = b.entry; after = spread bs m; whole = refl; rest = refl }
  around (suc n) (b ∷ bs) m h =
      let a = around n bs m (omega (arith, h)) in
      record {
        before = b.below ++ b.entry ∷ a.before;
        entry = a.entry;
        after = a.after;
        whole = ap (λ z. b.below ++ b.entry ∷ z) a.whole ∙ sym (append_assoc b.below (b.entry ∷ a.before) (a.entry ∷ a.after));
        rest = ap (λ z. b.below ++ b.entry ∷ z) a.rest ∙ sym (append_assoc b.below (b.entry ∷ a.before) a.after);
      }

  -- the branch at n has another last entry of what is below it
  pub taken_below : (n : ℕ) (bs : List (Branch K V)) (m : List (K × V)) (b : Branch K V) (u : List (K × V)) (e : K × V) → n < length bs → b ≡ get_or bs n b → b.below ≡ u ++ e ∷ [] → spread (slice_set bs n record { below = u; entry = e }) m ≡ without_entry n bs m
  taken_below n [] m b u e h p q = absurd (omega (arith, h))
  taken_below zero (x ∷ bs) m b u e h p q =
      let x_is : b ≡ x = p in
      sym (append_assoc u (e ∷ []) (spread bs m)) ∙ ap (λ z. z ++ spread bs m) (sym q ∙ ap (λ z. z.below) x_is)
  taken_below (suc n) (x ∷ bs) m b u e h p q = ap (λ z. x.below ++ x.entry ∷ z) (taken_below n bs m b u e (omega (arith, h)) p q)

  -- nothing is below the branch that is removed
  pub taken_whole : (n : ℕ) (bs : List (Branch K V)) (m : List (K × V)) (b : Branch K V) → n < length bs → b ≡ get_or bs n b → b.below ≡ [] → spread (remove bs n) m ≡ without_entry n bs m
  taken_whole n [] m b h p q = absurd (omega (arith, h))
  taken_whole zero (x ∷ bs) m b h p q =
      let x_is : b ≡ x = p in
      ap (λ z. z ++ spread bs m) (sym q ∙ ap (λ z. z.below) x_is)
  taken_whole (suc n) (x ∷ bs) m b h p q = ap (λ z. x.below ++ x.entry ∷ z) (taken_whole n bs m b (omega (arith, h)) p q)

module _ {K V : Type 0} (cmp : K → K → Ordering) where
  above_without : (k : K) (l : List (K × V)) (e : K × V) (r : List (K × V)) → AllAbove cmp k (l ++ e ∷ r) → AllAbove cmp k (l ++ r)
  above_without k [] e r a = a.1
  above_without k (x ∷ l) e r a = (a.0, above_without k l e r a.1)

  ascends_around : (l : List (K × V)) (e : K × V) (r : List (K × V)) → Ascends cmp (l ++ e ∷ r) → Ascends cmp (l ++ r)
  ascends_around [] e r s = s.1
  ascends_around (x ∷ l) e r s = (above_without x.0 l e r s.0, ascends_around l e r s.1)

  pub ascends_without : (n : ℕ) (bs : List (Branch K V)) (m : List (K × V)) → n < length bs → Ascends cmp (spread bs m) → Ascends cmp (without_entry n bs m)
  ascends_without n bs m h s =
      let a = around n bs m h in
      subst (Ascends cmp) (sym a.rest) (ascends_around a.before a.entry a.after (subst (Ascends cmp) a.whole s))

  -- what is left once the last entry is taken
  pub taken_ascends : (o : Option (K × V)) (old new : List (K × V)) → MatchOption o ((old ≡ []) × (new ≡ [])) (λ e. old ≡ new ++ e ∷ []) → Ascends cmp old → Ascends cmp new
  taken_ascends None old new h s = subst (Ascends cmp) (sym h.1) tt
  taken_ascends (Some e) old new h s = ascends_front cmp new (e ∷ []) (subst (Ascends cmp) h s)

  pub last_ascends : (bs : List (Branch K V)) (m u : List (K × V)) (e : K × V) → m ≡ u ++ e ∷ [] → Ascends cmp (spread bs m) → Ascends cmp (spread bs u)
  last_ascends bs m u e p s = ascends_front cmp (spread bs u) (e ∷ []) (subst (Ascends cmp) (ap (λ z. spread bs z) p ∙ spread-onto bs u (e ∷ [])) s)

module _ {K V : Type 0} where
  pub taken_as : (o : Option (K × V)) (old new old' new' : List (K × V)) → old' ≡ old → new' ≡ new → MatchOption o ((old ≡ []) × (new ≡ [])) (λ e. old ≡ new ++ e ∷ []) → MatchOption o ((old' ≡ []) × (new' ≡ [])) (λ e. old' ≡ new' ++ e ∷ [])
  taken_as None old new old' new' p q h = (p ∙ h.0, q ∙ h.1)
  taken_as (Some e) old new old' new' p q h = p ∙ h ∙ ap (λ z. z ++ e ∷ []) (sym q)

  -- the last branch becomes the last child
  pub last_branch_taken : (bs lower : List (Branch K V)) (b : Branch K V) (m : List (K × V)) → bs ≡ lower ++ b ∷ [] → m ≡ [] → spread bs m ≡ spread lower b.below ++ b.entry ∷ []
  last_branch_taken bs lower b m p q = spread_halves bs lower b [] m p ∙ ap (λ z. spread lower b.below ++ b.entry ∷ z) q

  -- the last entry of the last child
  pub last_child_taken : (bs : List (Branch K V)) (m u : List (K × V)) (e : K × V) → m ≡ u ++ e ∷ [] → spread bs m ≡ spread bs u ++ e ∷ []
  last_child_taken bs m u e p = ap (spread bs) p ∙ spread-onto bs u (e ∷ [])

  pub alone : (bs : List (Branch K V)) (m : List (K × V)) → length bs ≡ 0 → m ≡ spread bs m
  alone [] m p = refl
  alone (b ∷ bs) m p = absurd (omega (arith, p))

  -- the same, where what is below the branch is written before its entry
  pub taken_in_turn : (n : ℕ) (bs : List (Branch K V)) (m : List (K × V)) (b a y : Branch K V) (e : K × V) → n < length bs → b ≡ get_or bs n b → b.below ≡ a.below ++ e ∷ [] → y ≡ get_or (slice_set bs n a) n y → spread (slice_set (slice_set bs n a) n record { below = y.below; entry = e }) m ≡ without_entry n bs m
  taken_in_turn n bs m b a y e h p q r =
      ap (λ z. spread z m) (set_set bs n a record { below = y.below; entry = e })
      ∙ ap (λ z. spread (slice_set bs n record { below = z.below; entry = e }) m) (r ∙ get_or-set_same bs n a y h)
      ∙ taken_below n bs m b a.below e h p q
