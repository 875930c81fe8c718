-- The step that adds an entry keeps the rule.
use Rattle.std.proofs.Common.{◌≡◌, ℕ, ◌+◌, ◌<◌, ◌≤◌, ◌==◌, Bool, true, false, List, [], ◌∷◌, ◌++◌, length, refl, ap, sym, ◌∙◌, subst, arith, inl, length-append, None}
use Rattle.std.proofs.lemmas.List.{append-nil, nil_from_length}
use Rattle.std.proofs.lemmas.Bool.Decides.{nat_tests}
use mathlib.Core.List.{IsPrefix}
use prog.Atomic.{either}
use Rattle.logbook.specs.Pages.{Cell, cell, keeps, no_nib, step, Moves, Goes}
use Rattle.tab_post.specs.Register.{IsCounted, Adds}

module _ {E : Type 0} where
  -- a beginning as long as the whole is the whole
  whole_prefix : (xs ys : List E) → IsPrefix xs ys → length ys ≤ length xs → xs ≡ ys
  whole_prefix xs ys p le =
      let none : length p.0 ≡ 0 = omega (arith, ap length p.1, length-append xs p.0) in
      sym (append-nil xs) ∙ (ap (λ w. xs ++ w) (sym (nil_from_length p.0 none)) ∙ p.1)

  abbrev shown : List E → List E
  shown entries = []

  abbrev moved : E → List E → List E → ℕ → Type 0
  moved ask before after answer = Unit {0}

  -- the step as `logbook` asks for it
  abbrev Going : List E → E → ℕ → List Cell → List E → Type 0
  Going seen e old cells entries =
      Goes IsCounted shown (moved e) 0 (seen, (no_nib, None)) (λ n. either (n == old) (old + 1) n) (Adds (step 0 old (old + 1) e) (seen, (no_nib, None))) cells entries

  add_goes : (entries seen : List E) (e : E) (old : ℕ) → length seen ≡ old → IsPrefix seen entries → (b : Bool) → (length entries == old) ≡ b
      → Going seen e old ((length entries, true) ∷ (0, true) ∷ []) entries
  add_goes entries seen e old len pre true is =
      let here : length entries ≡ old = grind (arith, nat_tests) in
      let same : seen ≡ entries = whole_prefix seen entries pre (omega arith) in
      let word : either (length entries == old) (old + 1) (length entries) ≡ length (entries ++ e ∷ []) = rw is (omega (arith, length-append entries (e ∷ []))) in (
        keeps,
        e ∷ [],
        None,
        tt,
        record { words = ap (λ (n : ℕ). (n, true) ∷ (0, true) ∷ []) word },
        inl (refl, refl),
        rw is (ap (λ w. w ++ e ∷ []) (sym same)),
      )
  add_goes entries seen e old len pre false is =
      let all : entries ++ [] ≡ entries = append-nil entries in
      let word : either (length entries == old) (old + 1) (length entries) ≡ length (entries ++ []) = rw is (ap length (sym all)) in (
        keeps,
        [],
        None,
        tt,
        record { words = ap (λ (n : ℕ). (n, true) ∷ (0, true) ∷ []) word },
        inl (refl, refl),
        rw is (ap length all),
      )

  -- who has seen as many entries as the step looks for may make it
  pub add_moves : (seen : List E) (e : E) (old : ℕ) → length seen ≡ old
      → Moves IsCounted shown (moved e) 0 (seen, (no_nib, None)) (λ n. either (n == old) (old + 1) n) (Adds (step 0 old (old + 1) e) (seen, (no_nib, None)))
  add_moves seen e old len cells entries kept pre away =
      let P : List Cell → Type 0 = λ c. (0 < length c) × ((cell c 0).1 ≡ true) × Going seen e old c entries in
      subst P (sym kept.words) (omega arith, refl, add_goes entries seen e old len pre (length entries == old) refl)
