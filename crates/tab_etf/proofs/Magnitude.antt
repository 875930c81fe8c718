-- The value of a magnitude, byte by byte.
use Rattle.std.proofs.Common.{◌≡◌, ℕ, zero, suc, ◌+◌, ◌*◌, ◌-◌, ◌<◌, ◌≤◌, List, [], ◌∷◌, length, drop, get_or, arith, ap, refl, ◌^◌, Bool, true, false, cond, ltb, leb, eqb, Option, None, ℤ}
use Rattle.std.proofs.lemmas.Bool.{le-ltb, lt-leb}
use Rattle.tab_etf.specs.Spells.{signed_value}
use Rattle.std.proofs.lemmas.List.{at_drop_more}
use Rattle.tab_term.specs.Numbers.{low_value}

pub low_value-step : (bs : List ℕ) (i : ℕ) → i < length bs → low_value (drop i bs) ≡ get_or bs i 0 + 256 * low_value (drop (i + 1) bs)
low_value-step bs i h = at_drop_more low_value bs i 0 h

pub low_value-drop : (bs : List ℕ) (i : ℕ) → low_value (drop i bs) ≤ low_value bs
low_value-drop [] zero = omega arith
low_value-drop [] (suc i) = omega arith
low_value-drop (b ∷ bs) zero = omega arith
low_value-drop (b ∷ bs) (suc i) = omega (arith, low_value-drop bs i)

-- once what stands so far is over 2^119, one byte more makes the whole too large
pub too_large : (bs : List ℕ) (i m : ℕ) → 0 < i → i ≤ length bs → m ≡ low_value (drop i bs) → 256 * m ≤ low_value bs
too_large bs i m pos le e =
    let k : i - 1 + 1 ≡ i = omega arith in
    let one = low_value-step bs (i - 1) (omega arith) in
    omega (arith, one, low_value-drop bs (i - 1), ap (λ j. low_value (drop j bs)) k)

abbrev no_integer : Option ℤ
no_integer = None

-- a magnitude over 2^127 is in range with no sign
pub too_great : (sign m : ℕ) → 2 ^ 127 < m → signed_value sign m ≡ None
too_great sign m lt =
    let not_below : ltb m (2 ^ 127) ≡ false = le-ltb _ _ (omega arith) in
    let not_within : leb m (2 ^ 127) ≡ false = lt-leb m (2 ^ 127) lt in
    rw (not_below, not_within) (all_none (eqb sign 0) (eqb sign 1))
  where
    all_none : (a b : Bool) → cond a (no_integer) (cond b no_integer no_integer) ≡ no_integer
    all_none true b = refl
    all_none false true = refl
    all_none false false = refl
