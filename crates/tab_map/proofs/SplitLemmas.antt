-- A list in two halves, with an item between them.
use Rattle.std.proofs.Common.{◌≡◌, ℕ, zero, suc, ◌≤◌, ◌<◌, slice_set, get_or, List, [], ◌∷◌, ◌++◌, length, take, drop, append_assoc, sym, ap, ◌∙◌, arith}
use Rattle.std.proofs.lemmas.List.{take-append-drop}
use Rattle.std.specs.List.{insert}
use Rattle.tab_map.specs.declared.Branch.{Branch}
use Rattle.tab_map.specs.InOrder.{spread}
use Rattle.tab_map.proofs.SpreadLemmas.{spread-append, spread-onto}

pub halves_of : {A : Type 0} (xs taken lower : List A) (e : A) (upper : List A) (n : ℕ) → taken ≡ take n xs → upper ≡ drop n xs → taken ≡ lower ++ e ∷ [] → xs ≡ lower ++ e ∷ upper
halves_of xs taken lower e upper n p q r =
    sym (take-append-drop n xs) ∙ ap (λ z. z ++ drop n xs) (sym p ∙ r) ∙ append_assoc lower (e ∷ []) (drop n xs) ∙ ap (λ z. lower ++ e ∷ z) (sym q)

module _ {K V : Type 0} where
  pub spread_halves : (bs lower : List (Branch K V)) (b : Branch K V) (upper : List (Branch K V)) (m : List (K × V)) → bs ≡ lower ++ b ∷ upper → spread bs m ≡ spread lower b.below ++ b.entry ∷ spread upper m
  spread_halves bs lower b upper m p = ap (λ z. spread z m) p ∙ spread-append lower (b ∷ upper) m ∙ spread-onto lower b.below (b.entry ∷ spread upper m)

  pub spread_one : (b : Branch K V) (m : List (K × V)) (bs : List (Branch K V)) → bs ≡ b ∷ [] → spread bs m ≡ b.below ++ b.entry ∷ m
  spread_one b m bs p = ap (λ z. spread z m) p

  -- a child whose lower half becomes a branch before it
  pub split_child : (bs : List (Branch K V)) (n : ℕ) (b half : Branch K V) (u m : List (K × V)) → n < length bs → b ≡ get_or bs n b → b.below ≡ half.below ++ half.entry ∷ u → spread (insert (slice_set bs n record { below = u; entry = b.entry }) n half) m ≡ spread bs m
  split_child [] n b half u m h p q = absurd (omega (arith, h))
  split_child (x ∷ bs) zero b half u m h p q =
      sym (append_assoc half.below (half.entry ∷ u) (b.entry ∷ spread bs m)) ∙ ap (λ z. z ++ b.entry ∷ spread bs m) (sym q) ∙ ap (λ z. z.below ++ z.entry ∷ spread bs m) p
  split_child (x ∷ bs) (suc n) b half u m h p q = ap (λ z. x.below ++ x.entry ∷ z) (split_child bs n b half u m (omega (arith, h)) p q)

  pub split_last : (bs : List (Branch K V)) (n : ℕ) (half : Branch K V) (u m : List (K × V)) → n ≤ length bs → (n < length bs → ⊥) → m ≡ half.below ++ half.entry ∷ u → spread (insert bs n half) u ≡ spread bs m
  split_last [] zero half u m h k p = sym p
  split_last [] (suc n) half u m h k p = absurd (omega (arith, h))
  split_last (x ∷ bs) zero half u m h k p = absurd (k (omega arith))
  split_last (x ∷ bs) (suc n) half u m h k p = ap (λ z. x.below ++ x.entry ∷ z) (split_last bs n half u m (omega (arith, h)) (λ q. k (omega (arith, q))) p)
