-- Facts on the records that a walk passes over.
use Rattle.std.proofs.Common.{◌≡◌, ◌<◌, ◌≤◌, ◌+◌, ℕ, suc, Bool, false, Option, None, Some, MatchOption, List, [], ◌∷◌, ◌++◌, sym, ap, ◌∙◌, refl, append_assoc, length, length-drop, arith, take, drop, get_or, take-suc, take-append-drop}
use Rattle.std.proofs.lemmas.List.{take-append-le}
use Rattle.std.proofs.lemmas.List.Elements.{filter-append}
use Rattle.std.specs.List.{filter}
use Rattle.tab_term.specs.Data.{PlainTerm, none, one_more, terms_list}
use Rattle.tab_lists.specs.ByKey.{Entry, joined}

joined_append : (xs ys : List Entry) → joined (xs ++ ys) ≡ joined xs ++ joined ys
joined_append [] ys = refl
joined_append (e ∷ es) ys = ap (λ z. terms_list e.1 ++ z) (joined_append es ys) ∙ sym (append_assoc (terms_list e.1) (joined es) (joined ys))

module _ (meets : PlainTerm → Bool) where
  found_append : (xs ys : List Entry) → filter meets (joined (xs ++ ys)) ≡ filter meets (joined xs) ++ filter meets (joined ys)
  found_append xs ys = ap (filter meets) (joined_append xs ys) ∙ filter-append meets (joined xs) (joined ys)

  -- an entry more is passed over, whose one record fails
  pub passed_next : (row : List Entry) (n : ℕ) (e : Entry) (t : PlainTerm) → n < length row → e ≡ get_or row n e → filter meets (joined (take n row)) ≡ [] → e.1 ≡ one_more t none → meets t ≡ false → filter meets (joined (take (n + 1) row)) ≡ []
  passed_next row n e t lt at before is fails =
      let last : filter meets (joined (e ∷ [])) ≡ [] = rw (is, fails) refl in
      let one : n + 1 ≡ suc n = omega arith in
      ap (λ z. filter meets (joined z)) (ap (λ z. take z row) one ∙ take-suc row n e lt ∙ ap (λ z. take n row ++ (z ∷ [])) (sym at)) ∙ found_append (take n row) (e ∷ []) ∙ ap (λ z. z ++ filter meets (joined (e ∷ []))) before ∙ last

  -- behind those that are passed over stands what is found
  behind_passed : (es row rest : List Entry) (n : ℕ) → es ≡ row ++ rest → n ≤ length row → filter meets (joined (take n row)) ≡ [] → filter meets (joined es) ≡ filter meets (joined (drop n es))
  behind_passed es row rest n is le fail =
      let front : take n es ≡ take n row = ap (take n) is ∙ take-append-le n row rest le in
      ap (λ z. filter meets (joined z)) (sym (take-append-drop n es)) ∙ found_append (take n es) (drop n es) ∙ ap (λ z. z ++ filter meets (joined (drop n es))) (ap (λ z. filter meets (joined z)) front ∙ fail)

  -- an entry is the next of those that stand behind
  pub candidate : {A : Type 0} (of : A → Entry) (es row rest fs : List Entry) (n : ℕ) (r : Option A) → es ≡ row ++ rest → n ≤ length row → filter meets (joined (take n row)) ≡ []
      → MatchOption r ((drop n es ≡ []) × (fs ≡ [])) (λ x. drop n es ≡ of x ∷ fs)
      → MatchOption r ((filter meets (joined es) ≡ []) × (fs ≡ [])) (λ x. (length fs < length es) × (filter meets (joined es) ≡ filter meets (joined (of x ∷ fs))))
  candidate of es row rest fs n None is le fail next = (behind_passed es row rest n is le fail ∙ ap (λ z. filter meets (joined z)) next.0, next.1)
  candidate of es row rest fs n (Some x) is le fail next = (omega (arith, ap length next, length-drop n es), behind_passed es row rest n is le fail ∙ ap (λ z. filter meets (joined z)) next)
