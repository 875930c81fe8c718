-- The outermost of lists that stand innermost first, and parts from the last to the first.
use Rattle.std.proofs.Common.{◌≡◌, List, [], ◌∷◌, ◌++◌, refl, sym, ap, ◌∙◌, take}
use Rattle.std.specs.Prelude.{reverse}
use Rattle.std.proofs.lemmas.List.{reverse-append}
use Rattle.tab_term.specs.Data.{PlainTerms}
use Rattle.tab_proto.specs.Commands.{outermost}

outermost_last : (ys : List PlainTerms) (x : PlainTerms) → outermost (ys ++ x ∷ []) ≡ x
outermost_last [] x = refl
outermost_last (y ∷ []) x = refl
outermost_last (y ∷ z ∷ ys) x = outermost_last (z ∷ ys) x

same_head : (x y : PlainTerms) (ys : List PlainTerms) → x ∷ [] ≡ ys ++ y ∷ [] → y ≡ x
same_head x y [] e = cc
same_head x y (z ∷ []) e = cc
same_head x y (z ∷ w ∷ ys) e = cc

pub outermost_first : (xs ys : List PlainTerms) (y : PlainTerms) → take 1 xs ≡ ys ++ y ∷ [] → y ≡ outermost (reverse xs)
outermost_first [] [] y e = cc
outermost_first [] (z ∷ ys) y e = cc
outermost_first (x ∷ xs) ys y e = same_head x y ys e ∙ sym (ap outermost (reverse-append (x ∷ []) xs) ∙ outermost_last (reverse xs) x)
