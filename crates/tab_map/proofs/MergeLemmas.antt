-- Two children of a node with the entry between them as one.
use Rattle.std.proofs.Common.{None, Some, slice_get, slice_set, get_or, ◌≡◌, ℕ, zero, suc, ◌≤◌, List, [], ◌∷◌, ◌++◌, length, append_assoc, length-append, refl, ap, ◌∙◌, subst, arith}
use Rattle.std.specs.List.{remove}
use Rattle.std.specs.declared.cmp.Ordering.{Ordering}
use Rattle.tab_map.specs.declared.Branch.{Branch}
use Rattle.tab_map.specs.Entries.{Ascends}
use Rattle.tab_map.specs.InOrder.{spread}
use Rattle.tab_map.proofs.SpreadLemmas.{later}
use Rattle.tab_map.proofs.SplitLemmas.{spread_halves}
use Rattle.tab_map.proofs.AscendsLemmas.{first_two}

module _ {K V : Type 0} where
  -- a node made of the branches of two, with one between them
  pub joined_is : (bs xs l r lv rv : List (Branch K V)) (b : Branch K V) (m lm rm : List (K × V)) (e : K × V) (d1 d2 : List (K × V)) → bs ≡ xs ++ r → xs ≡ l ++ b ∷ [] → l ≡ lv → r ≡ rv → b.below ≡ lm → b.entry ≡ e → m ≡ rm → d1 ≡ spread lv lm → d2 ≡ spread rv rm → spread bs m ≡ d1 ++ e ∷ d2
  joined_is bs xs l r lv rv b m lm rm e d1 d2 p q i j k f h s t =
      spread_halves bs l b r m (p ∙ ap (λ z. z ++ r) q ∙ append_assoc l (b ∷ []) r) ∙ rw (i, j, k, f, h, s, t) refl

  pub joined_some : (bs xs l r : List (Branch K V)) (b : Branch K V) → bs ≡ xs ++ r → xs ≡ l ++ b ∷ [] → 1 ≤ length bs
  joined_some bs xs l r b p q = omega (arith, ap length p, length-append xs r, ap length q, length-append l (b ∷ []))

  -- the branch at n is removed, and what it had is before what the next one has below it
  pub merge_child : (bs : List (Branch K V)) (n : ℕ) (l x y : Branch K V) (u m : List (K × V)) → slice_get bs n ≡ Some l → slice_get bs (suc n) ≡ Some x → y ≡ get_or (remove bs n) n y → u ≡ l.below ++ l.entry ∷ x.below → spread (slice_set (remove bs n) n record { below = u; entry = y.entry }) m ≡ spread bs m
  merge_child [] n l x y u m p q i r = absurd (cc)
  merge_child (b ∷ []) zero l x y u m p q i r = absurd (cc)
  merge_child (b ∷ c ∷ bs) zero l x y u m p q i r =
      let l_is : b ≡ l = cc in
      let x_is : c ≡ x = cc in
      let y_is : y ≡ c = i in
      rw (r, y_is, l_is, x_is) (append_assoc l.below (l.entry ∷ x.below) (x.entry ∷ spread bs m))
  merge_child (b ∷ bs) (suc n) l x y u m p q i r = ap (λ z. b.below ++ b.entry ∷ z) (merge_child bs n l x y u m p q i r)

  pub merge_last : (bs : List (Branch K V)) (n : ℕ) (l : Branch K V) (u m : List (K × V)) → slice_get bs n ≡ Some l → slice_get bs (suc n) ≡ None → u ≡ l.below ++ l.entry ∷ m → spread (remove bs n) u ≡ spread bs m
  merge_last [] n l u m p q r = absurd (cc)
  merge_last (b ∷ []) zero l u m p q r =
      let l_is : b ≡ l = cc in
      rw (r, l_is) refl
  merge_last (b ∷ c ∷ bs) zero l u m p q r = absurd (cc)
  merge_last (b ∷ bs) (suc n) l u m p q r = ap (λ z. b.below ++ b.entry ∷ z) (merge_last bs n l u m p q r)

module _ {K V : Type 0} (cmp : K → K → Ordering) where
  pub two_children : (bs : List (Branch K V)) (n : ℕ) (l x : Branch K V) (m : List (K × V)) → slice_get bs n ≡ Some l → slice_get bs (suc n) ≡ Some x → Ascends cmp (spread bs m) → Ascends cmp (l.below ++ l.entry ∷ x.below)
  two_children [] n l x m p q s = absurd (cc)
  two_children (b ∷ []) zero l x m p q s = absurd (cc)
  two_children (b ∷ c ∷ bs) zero l x m p q s =
      let l_is : b ≡ l = cc in
      let x_is : c ≡ x = cc in
      subst (λ z. Ascends cmp (z.below ++ z.entry ∷ x.below)) l_is (subst (λ z. Ascends cmp (b.below ++ b.entry ∷ z.below)) x_is (first_two cmp b.below b.entry c.below c.entry (spread bs m) s))
  two_children (b ∷ bs) (suc n) l x m p q s = two_children bs n l x m p q (later cmp b bs m s)

  pub last_children : (bs : List (Branch K V)) (n : ℕ) (l : Branch K V) (m : List (K × V)) → slice_get bs n ≡ Some l → slice_get bs (suc n) ≡ None → Ascends cmp (spread bs m) → Ascends cmp (l.below ++ l.entry ∷ m)
  last_children [] n l m p q s = absurd (cc)
  last_children (b ∷ []) zero l m p q s =
      let l_is : b ≡ l = cc in
      subst (λ z. Ascends cmp (z.below ++ z.entry ∷ m)) l_is s
  last_children (b ∷ c ∷ bs) zero l m p q s = absurd (cc)
  last_children (b ∷ bs) (suc n) l m p q s = last_children bs n l m p q (later cmp b bs m s)

module _ {A : Type 0} where
  -- two rows with an entry between them, each copied
  pub joined_rows : (all pushed copied more left right l r : List A) (entry e : A) → all ≡ pushed ++ more → pushed ≡ copied ++ entry ∷ [] → copied ≡ left → more ≡ right → entry ≡ e → left ≡ l → right ≡ r → all ≡ l ++ e ∷ r
  joined_rows all pushed copied more left right l r entry e p q a b x y z = rw (p, q, a, b, x, y, z) (append_assoc l (e ∷ []) r)
