-- What is left of a list from whose end a subtree, an entry and a subtree are taken.
use Rattle.std.proofs.Common.{◌≡◌, ◌+◌, List, [], ◌∷◌, ◌++◌, length, append_assoc, length-append, take, drop, ℕ, refl, sym, ap, ◌∙◌, subst}
use Rattle.std.proofs.lemmas.List.{take-append-drop}
use Rattle.std.specs.declared.cmp.Ordering.{Ordering}
use Rattle.tab_map.specs.Entries.{Ascends}
use Rattle.tab_map.proofs.AscendsLemmas.{ascends_front, ascends_back}

module _ {A : Type 0} where
  pub taken_length : (old one two right : List A) (e : A) → old ≡ one ++ right → one ≡ two ++ e ∷ [] → length old ≡ (length two + 1) + length right
  taken_length old one two right e p q = rw (p, q, length-append, length-append) refl

  regrouped : (three left : List A) (e : A) (right : List A) → ((three ++ left) ++ e ∷ []) ++ right ≡ three ++ (left ++ e ∷ right)
  regrouped three left e right = rw append_assoc (rw append_assoc refl)

  pub taken_whole : (old one two three left right : List A) (e : A) → old ≡ one ++ right → one ≡ two ++ e ∷ [] → two ≡ three ++ left → old ≡ three ++ (left ++ e ∷ right)
  taken_whole old one two three left right e p q r = p ∙ ap (λ z. z ++ right) (q ∙ ap (λ z. z ++ e ∷ []) r) ∙ regrouped three left e right

module _ {K V : Type 0} (cmp : K → K → Ordering) where
  pub taken_sorted : (old one two right : List (K × V)) (e : K × V) → old ≡ one ++ right → one ≡ two ++ e ∷ [] → Ascends cmp old → Ascends cmp two
  taken_sorted old one two right e p q s =
      ascends_front cmp two (e ∷ []) (subst (Ascends cmp) q (ascends_front cmp one right (subst (Ascends cmp) p s)))

  pub taken_node : (old one two three left right : List (K × V)) (e : K × V) → old ≡ one ++ right → one ≡ two ++ e ∷ [] → two ≡ three ++ left → Ascends cmp old → Ascends cmp (left ++ e ∷ right)
  taken_node old one two three left right e p q r s =
      ascends_back cmp three (left ++ e ∷ right) (subst (Ascends cmp) (taken_whole old one two three left right e p q r) s)

  pub dropped_sorted : (n : ℕ) (xs ys : List (K × V)) → ys ≡ drop n xs → Ascends cmp xs → Ascends cmp ys
  dropped_sorted n xs ys p s = subst (Ascends cmp) (sym p) (ascends_back cmp (take n xs) (drop n xs) (subst (Ascends cmp) (sym (take-append-drop n xs)) s))
