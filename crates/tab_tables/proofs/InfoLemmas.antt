-- Names and numbers that are written as terms, one after another.
use Rattle.std.proofs.Common.{◌≡◌, ℕ, zero, suc, arith, ◌+◌, ◌<◌, List, [], ◌∷◌, ◌++◌, length, take, get_or, refl, sym, ap, ◌∙◌}
use Rattle.std.proofs.lemmas.List.{take_more}
use Rattle.tab_term.specs.declared.term.Term.{Term}
use Rattle.tab_term.specs.Data.{PlainTerm, PlainTerms, one_more, atom}
use Rattle.tab_term.specs.View.{term, terms}
use Rattle.tab_term.proofs.Lists.{push, terms-push}
use Rattle.tab_model.specs.Names.{names, number, numbers}

pub names_push : (ns : List (List ℕ)) (n : List ℕ) → names (ns ++ n ∷ []) ≡ push (names ns) (atom n)
names_push [] n = refl
names_push (m ∷ ns) n = ap (one_more (atom m)) (names_push ns n)

pub numbers_push : (ns : List ℕ) (n : ℕ) → numbers (ns ++ n ∷ []) ≡ push (numbers ns) (number n)
numbers_push [] n = refl
numbers_push (m ∷ ns) n = ap (one_more (number m)) (numbers_push ns n)

-- one more, behind those that are written
pub next : {A : Type 0} (all : List A → PlainTerms) (one : A → PlainTerm) → ((xs : List A) (x : A) → all (xs ++ x ∷ []) ≡ push (all xs) (one x)) → (written new : List Term) (t : Term) (xs : List A) (i : ℕ) (x : A) → new ≡ written ++ t ∷ [] → term t ≡ one x → i < length xs → x ≡ get_or xs i x
    → terms written ≡ all (take i xs) → terms new ≡ all (take (i + 1) xs)
next all one pushes written new t xs i x n is h e before =
    ap terms n ∙ terms-push written t ∙ ap (λ ts. push ts (term t)) before ∙ ap (push (all (take i xs))) is ∙ sym (pushes (take i xs) x)
    ∙ ap (λ y. all (take i xs ++ y ∷ [])) e ∙ ap all (sym (take_more xs i x h))

-- an element that is there, whatever stands for none
pub at_is : (xs : List ℕ) (i d e : ℕ) → i < length xs → get_or xs i d ≡ get_or xs i e
at_is [] i d e h = absurd (omega arith)
at_is (x ∷ xs) zero d e h = refl
at_is (x ∷ xs) (suc i) d e h = at_is xs i d e (omega (arith, h))
