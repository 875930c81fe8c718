-- How numbers stand for keys.
use Rattle.std.specs.Prelude.{◌≡◌, ℕ, ◌<◌}
use Rattle.std.proofs.Common.{sym, arith}
use Rattle.std.specs.Cmp.{nat_cmp_is}
use Rattle.std.specs.Ordering.{nat_cmp}
use Rattle.std.specs.declared.cmp.Ordering.{Ordering}
use Rattle.std.specs.declared.cmp.Ordering.TheVariants.{Less}

-- of two keys the one with the lesser number is the lesser
abbrev pub Agrees : {K : Type 0} → (K → ℕ) → (K → K → Ordering) → Type 0
Agrees {K} number cmp = (a b : K) → number a < number b → cmp a b ≡ Less

-- numbers stand for themselves
pub numbers_agree : Agrees (λ n. n) nat_cmp
numbers_agree a b h = sym (nat_cmp_is a b Less h)

-- one number for every key orders none
pub one_number_agrees : {K : Type 0} (cmp : K → K → Ordering) → Agrees (λ k. 0) cmp
one_number_agrees cmp a b h = absurd (omega (arith, h))
