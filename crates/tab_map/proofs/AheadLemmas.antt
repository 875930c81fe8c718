-- Facts on what is ahead.
use Rattle.std.proofs.Common.{◌≡◌, ◌≤◌, ◌<◌, List, [], ◌∷◌, ◌++◌, length, length-drop, ℕ, drop, get_or, Option, None, Some, slice_get, append-nil, sym, ap, ◌∙◌, subst, arith}
use Rattle.tab_map.specs.declared.ahead.Ahead.{Ahead}
use Rattle.tab_map.specs.declared.ahead.Siblings.{Siblings}
use Rattle.tab_map.specs.declared.Branch.{Branch}
use Rattle.tab_map.specs.Ahead.{AreAhead, BeginAs, HasNext, behind, behind_row, known, first_known}
use Rattle.tab_map.specs.InOrder.{spread}
use Rattle.tab_map.proofs.NodeReads.{spread_first, get_first}

module _ {K V : Type 0} where
  first_of : (node : Option (Siblings K V)) (l es : List (K × V)) → BeginAs node l es → HasNext node l → slice_get l 0 ≡ slice_get es 0
  first_of None l es p h = sym (ap (λ z. slice_get z 0) p)
  first_of (Some s) [] es p h = absurd (omega (arith, h))
  first_of (Some s) (e ∷ l) es p h = sym (ap (λ z. slice_get z 0) p.1)

  -- the known entry that comes next is the next of all
  pub ahead_first : (a : Ahead K V) (es : List (K × V)) → AreAhead a es → first_known a ≡ slice_get es 0
  ahead_first a es f = first_of a.node (known a) es f.0 f.1

  behind_first : (bs : List (Branch K V)) (m : List (K × V)) (b : Branch K V) → 1 ≤ length bs → b ≡ get_or bs 0 b → behind bs m ≡ b.entry ∷ spread (drop 1 bs) m
  behind_first [] m b some p = absurd (omega (arith, some))
  behind_first (x ∷ bs) m b some p = ap (λ z. z.entry ∷ spread bs m) (sym p)

  -- at the end of a row the entry of its branch is ahead
  pub at_branch : (node : Option (Siblings K V)) (row es : List (K × V)) (s : Siblings K V) (b : Branch K V) → BeginAs node (row ++ behind_row node) es → node ≡ Some s → length row ≡ 0 → 1 ≤ length s.branches.now → b ≡ get_or s.branches.now 0 b → (after : List (K × V)) × (es ≡ b.entry ∷ (spread (drop 1 s.branches.now) s.last.now ++ after))
  at_branch None row es s b f p none some at = absurd (cc)
  at_branch (Some t) (x ∷ row) es s b f p none some at = absurd (omega (arith, none))
  at_branch (Some t) [] es s b f p none some at =
      let q : t ≡ s = cc in
      (f.0, f.1 ∙ ap (λ z. behind z.branches.now z.last.now ++ f.0) q ∙ ap (λ z. z ++ f.0) (behind_first s.branches.now s.last.now b some at))

  -- the last child, behind the last branch
  pub last_ahead : (bs : List (Branch K V)) (m child : List (K × V)) → length bs < 1 → child ≡ m → spread bs m ≡ child ++ behind bs m
  last_ahead [] m child none p = sym (append-nil child ∙ p)
  last_ahead (b ∷ bs) m child none p = absurd (omega (arith, none))

  -- the child below the next branch
  pub child_ahead : (bs : List (Branch K V)) (m child : List (K × V)) (b : Branch K V) → 1 ≤ length bs → b ≡ get_or bs 0 b → child ≡ b.below → spread bs m ≡ child ++ behind bs m
  child_ahead bs m child b some at p = spread_first bs m b (get_first bs b some at) ∙ ap (λ z. z ++ behind bs m) (sym p)

  -- what is below the branch at n, and behind it
  pub rest_ahead : (a : Ahead K V) (xs below : List (K × V)) (bs rest : List (Branch K V)) (n : ℕ) (m last : List (K × V)) → (1 ≤ length rest → AreAhead a (below ++ behind rest last)) → rest ≡ drop n bs → last ≡ m → n < length bs → xs ≡ below ++ behind (drop n bs) m → AreAhead a xs
  rest_ahead a xs below bs rest n m last f p q within is =
      let some : 1 ≤ length rest = rw (p, length-drop n bs) (omega (arith, within)) in
      subst (AreAhead a) (ap (λ z. below ++ behind z last) p ∙ ap (λ z. below ++ behind (drop n bs) z) q ∙ sym is) (f some)
