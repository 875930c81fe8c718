-- A list that is appended to a vector while it is walked over.
use Rattle.std.specs.Prelude.{◌≡◌, ℕ, ◌+◌, ◌*◌, ◌<◌, ◌≤◌, ◌⊎◌, List, [], ◌∷◌, ◌++◌, Option, Some, codes}
use Rattle.std.specs.Global.{Vec}
use Rattle.tab_term.specs.Canon.{canons, list_tag}
use Rattle.tab_term.specs.Data.{PlainTerm, PlainTerms, atom, count, list, pair}
use Rattle.tab_etf.specs.declared.counted.Counted.{Counted}
use Rattle.tab_etf.specs.declared.listing.Found.{Found}
use Rattle.tab_etf.specs.declared.unmeasured.Unmeasured.{Unmeasured}
use Rattle.tab_etf.specs.declared.unmeasured.Unmeasured.TheVariants as unmeasured

-- the bytes of a vector are known
abbrev pub held : Counted (Vec ℕ) → Option (List ℕ)
held c = Some c.inner.items

-- how often it had no memory
abbrev pub faults_of : Counted (Vec ℕ) → ℕ
faults_of c = c.faults

-- these elements were gone over
pub record IsCounted (found : Found) (ts : PlainTerms) : Type 0 where
  pub tag : found.tag ≡ list_tag ts
  pub count : found.count ≡ count ts
  pub fits : found.count < 4294967295

-- a list of terms before its count is put in
abbrev pub uncounted : PlainTerms → List ℕ
uncounted ts = (108 ∷ 0 ∷ 0 ∷ 0 ∷ 0 ∷ []) ++ (canons ts ++ 106 ∷ [])

-- a list of elements so long passes the bound, behind so many bytes, or has more elements than four bytes count
abbrev pub IsOver : ℕ → ℕ → ℕ → Type 0
IsOver most before elements = (most < before + 6 + elements) ⊎ (4294967295 ≤ elements)

-- what is so long may pass the bound, behind so many bytes: a list counts with each of its elements, also one that is written as a string
abbrev pub IsPast : ℕ → ℕ → ℕ → Type 0
IsPast most before len = (most < before + 2 * len + 4) ⊎ (4294967295 ≤ len)

-- bytes are added, and those that were there stay
abbrev pub Adds : List ℕ → List ℕ → Type 0
Adds old new = (s : List ℕ) × (new ≡ old ++ s)

-- a list, or {atomic, Answers}
abbrev pub unmeasured_term : Unmeasured → PlainTerm
unmeasured_term (unmeasured.List ts) = list ts.now
unmeasured_term (unmeasured.Atomic ts) = pair (atom (codes "atomic")) (list ts.now)
