-- The significant bytes of a number.
use Rattle.std.proofs.Common.{◌≡◌, ◌≢◌, ℕ, zero, suc, ◌+◌, ◌-◌, ◌<◌, ◌≤◌, List, [], ◌∷◌, ◌++◌, length, take, get_or, refl, sym, ap, ◌∙◌, arith}
use Rattle.std.proofs.lemmas.Bool.{ne_eqb}
use Rattle.std.proofs.lemmas.List.{take_more}
use Rattle.tab_term.specs.Canon.{before_zeros, significant}

zero_last : (ns : List ℕ) → significant (ns ++ 0 ∷ []) ≡ significant ns
unfolding significant
zero_last [] = refl
zero_last (n ∷ ns) = ap (before_zeros n) (zero_last ns)

keeps : (n : ℕ) (ns : List ℕ) (b : ℕ) → before_zeros n (ns ++ b ∷ []) ≡ n ∷ (ns ++ b ∷ [])
keeps n [] b = refl
keeps n (m ∷ ms) b = refl

other_last : (ns : List ℕ) (b : ℕ) → b ≢ 0 → significant (ns ++ b ∷ []) ≡ ns ++ b ∷ []
unfolding significant
other_last [] b h = rw (ne_eqb b 0 h) refl
other_last (n ∷ ns) b h = ap (before_zeros n) (other_last ns b h) ∙ keeps n ns b

pub drop_zero : (ns : List ℕ) (n : ℕ) → 0 < n → n ≤ length ns → get_or ns (n - 1) 0 ≡ 0 → significant (take n ns) ≡ significant (take (n - 1) ns)
drop_zero ns n pos le e =
    let k : n ≡ n - 1 + 1 = omega arith in
    ap (λ m. significant (take m ns)) k ∙ ap significant (take_more ns (n - 1) 0 (omega arith)) ∙ ap (λ b. significant (take (n - 1) ns ++ b ∷ [])) e ∙ zero_last (take (n - 1) ns)

pub no_zero : (ns : List ℕ) (n : ℕ) → n ≤ length ns → (0 < n → get_or ns (n - 1) 0 ≢ 0) → significant (take n ns) ≡ take n ns
unfolding significant
no_zero ns zero le h = refl
no_zero ns (suc n) le h =
    let k : suc n ≡ n + 1 = omega arith in
    let m : suc n - 1 ≡ n = omega arith in
    let last : get_or ns n 0 ≢ 0 = rw m at (h (omega arith)) in
    let e : take (suc n) ns ≡ take n ns ++ get_or ns n 0 ∷ [] = ap (λ j. take j ns) k ∙ take_more ns n 0 (omega arith) in
    ap significant e ∙ other_last (take n ns) (get_or ns n 0) last ∙ sym e
