-- Where a key belongs among entries.
use Rattle.std.specs.Prelude.{◌≡◌, ℕ, List, [], ◌∷◌, ◌++◌, length}
use Rattle.std.specs.declared.cmp.Ordering.{Ordering}
use Rattle.std.specs.declared.cmp.Ordering.TheVariants.{Less, Equal, Greater}

-- k is above each entry's key
abbrev pub IsPast : {K V : Type 0} → (K → K → Ordering) → K → List (K × V) → Type 0
IsPast cmp k [] = Unit {0}
IsPast cmp k (e ∷ es) = (cmp k e.0 ≡ Greater) × IsPast cmp k es

-- k is below the first entry's key
abbrev pub IsBelow : {K V : Type 0} → (K → K → Ordering) → K → List (K × V) → Type 0
IsBelow cmp k [] = Unit {0}
IsBelow cmp k (e ∷ es) = cmp k e.0 ≡ Less

-- the entry at n has a key equal to k
pub record HasAt {K V : Type 0} (cmp : K → K → Ordering) (k : K) (es : List (K × V)) (n : ℕ) : Type 0 where
  pub before : List (K × V)
  pub entry : K × V
  pub after : List (K × V)
  pub is : es ≡ before ++ entry ∷ after
  pub count : length before ≡ n
  pub equal : cmp k entry.0 ≡ Equal

-- no key is equal to k, which belongs at n
pub record IsGap {K V : Type 0} (cmp : K → K → Ordering) (k : K) (es : List (K × V)) (n : ℕ) : Type 0 where
  pub before : List (K × V)
  pub after : List (K × V)
  pub is : es ≡ before ++ after
  pub count : length before ≡ n
  pub past : IsPast cmp k before
  pub below : IsBelow cmp k after
