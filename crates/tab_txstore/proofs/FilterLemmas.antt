-- Records that a filter leaves.
use Rattle.std.proofs.Common.{◌≡◌, [], ◌∷◌, Bool, true, false, refl, arith}
use Rattle.std.specs.Prelude.{if◌then◌else◌, ◌&&◌}
use Rattle.std.specs.List.{filter, list_all}
use Rattle.tab_term.specs.Data.{PlainTerm, PlainTerms, none, one_more, count}
use Rattle.tab_model.specs.Names.{terms_list}

module _ (test : PlainTerm → Bool) where
  -- of one record that fails the test nothing is left
  pub none_alone : (ts : PlainTerms) → count ts ≡ 1 → list_all test (terms_list ts) ≡ false → [] ≡ filter test (terms_list ts)
  none_alone none one h = absurd (omega (arith, one))
  none_alone (one_more t none) one h = cases (test t) h
    where
      cases : (b : Bool) → (b && true) ≡ false → [] ≡ (if b then t ∷ [] else [])
      cases true h = cc
      cases false h = refl
  none_alone (one_more t (one_more u us)) one h = absurd (omega (arith, one))
