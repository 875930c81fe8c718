-- How a ghost variable stores terms: as a list of marks, which a stack reads back.
use Rattle.std.specs.Prelude.{◌≡◌, ℕ, zero, suc, ℤ, List, [], ◌∷◌, ◌⊎◌, refl}
use Rattle.std.proofs.Common.{ap, inl, inr, ◌∙◌}
use Rattle.std.specs.Coded.{Coded, code_by, coded×, coded⊎, coded_ℕ, coded_ℤ, coded_list}
use Rattle.tab_term.specs.Data.{PlainTerm, int, atom, tuple, list, bin, map, PlainTerms, none, one_more, PlainPairs, no_pair, one_pair}

-- an integer, or the number of what it is with an atom's or a binary's bytes
abbrev pub Mark : Type 0
Mark = ℤ ⊎ (ℕ × List ℕ)

-- marks before the marks k: a tuple, list or map by its own mark, its members' and the mark 5 at their end
abbrev mutual
  -- a term: an integer, 0 an atom, 1 a binary, 2 a tuple, 3 a list, 4 a map
  pub marks : PlainTerm → List Mark → List Mark
  marks (int z) k = inl z ∷ k
  marks (atom s) k = inr (0, s) ∷ k
  marks (bin s) k = inr (1, s) ∷ k
  marks (tuple ts) k = inr (2, []) ∷ all_marks ts k
  marks (list ts) k = inr (3, []) ∷ all_marks ts k
  marks (map ps) k = inr (4, []) ∷ pair_marks ps k

  -- the terms in their order, and the mark 5
  pub all_marks : PlainTerms → List Mark → List Mark
  all_marks none k = inr (5, []) ∷ k
  all_marks (one_more t ts) k = marks t (all_marks ts k)

  -- a map is stored as the list of its keys and values, in turn
  pub pair_marks : PlainPairs → List Mark → List Mark
  pair_marks no_pair k = inr (5, []) ∷ k
  pair_marks (one_pair l x ps) k = marks l (marks x (pair_marks ps k))

-- the keys and values of the pairs, in turn
abbrev pub flat : PlainPairs → PlainTerms
flat no_pair = none
flat (one_pair l x ps) = one_more l (one_more x (flat ps))

-- the pairs of keys and values in turn; a key without a value is left out
abbrev pub paired : PlainTerms → PlainPairs
paired none = no_pair
paired (one_more l none) = no_pair
paired (one_more l (one_more x ts)) = one_pair l x (paired ts)

-- the keys and values of pairs, read back, are the pairs
pub paired-flat : (ps : PlainPairs) → paired (flat ps) ≡ ps
paired-flat no_pair = refl
paired-flat (one_pair l x ps) = ap (one_pair l x) (paired-flat ps)

-- the stack with one more term before those of its top list; an empty stack stays empty
abbrev pub on_top : PlainTerm → List PlainTerms → List PlainTerms
on_top t [] = []
on_top t (ts ∷ stack) = one_more t ts ∷ stack

-- the stack, whose top list became one term of the list below it
abbrev pub closed : (PlainTerms → PlainTerm) → List PlainTerms → List PlainTerms
closed f [] = []
closed f (ts ∷ stack) = on_top (f ts) stack

-- what a mark does to the stack: 0 and 1 put a term on top, 2 to 4 close the top list, any other begins a list
abbrev pub turn_of : ℕ → List ℕ → List PlainTerms → List PlainTerms
turn_of zero s stack = on_top (atom s) stack
turn_of (suc zero) s stack = on_top (bin s) stack
turn_of (suc (suc zero)) s stack = closed tuple stack
turn_of (suc (suc (suc zero))) s stack = closed list stack
turn_of (suc (suc (suc (suc zero)))) s stack = closed (λ ts. map (paired ts)) stack
turn_of (suc (suc (suc (suc (suc n))))) s stack = none ∷ stack

-- what a mark does to the stack; an integer is put on top
abbrev pub turn : Mark → List PlainTerms → List PlainTerms
turn (inl z) stack = on_top (int z) stack
turn (inr m) stack = turn_of m.0 m.1 stack

-- the stack that the marks leave, the last of them read first
abbrev pub unmarked : List Mark → List PlainTerms
unmarked [] = []
unmarked (m ∷ ms) = turn m (unmarked ms)

-- the top list of the stack, none where it is empty
abbrev pub top : List PlainTerms → PlainTerms
top [] = none
top (ts ∷ stack) = ts

-- the first of the terms, an empty binary where there is none
abbrev pub first : PlainTerms → PlainTerm
first none = bin []
first (one_more t ts) = t

mutual
  -- the marks of a term, read back, put the term on top
  pub unmarks : (t : PlainTerm) (k : List Mark) (us : PlainTerms) (stack : List PlainTerms) → unmarked k ≡ us ∷ stack → unmarked (marks t k) ≡ one_more t us ∷ stack
  unmarks (int z) k us stack h = ap (on_top (int z)) h
  unmarks (atom s) k us stack h = ap (on_top (atom s)) h
  unmarks (bin s) k us stack h = ap (on_top (bin s)) h
  unmarks (tuple ts) k us stack h = ap (closed tuple) (all_unmarks ts k us stack h)
  unmarks (list ts) k us stack h = ap (closed list) (all_unmarks ts k us stack h)
  unmarks (map ps) k us stack h = ap (closed (λ ts. map (paired ts))) (pair_unmarks ps k us stack h) ∙ ap (λ x. one_more (map x) us ∷ stack) (paired-flat ps)

  -- the marks of terms, read back, put a list of them on the stack
  pub all_unmarks : (ts : PlainTerms) (k : List Mark) (us : PlainTerms) (stack : List PlainTerms) → unmarked k ≡ us ∷ stack → unmarked (all_marks ts k) ≡ ts ∷ us ∷ stack
  all_unmarks none k us stack h = ap (λ st. none ∷ st) h
  all_unmarks (one_more t ts) k us stack h = unmarks t (all_marks ts k) ts (us ∷ stack) (all_unmarks ts k us stack h)

  -- the marks of pairs, read back, put a list of their keys and values on the stack
  pub pair_unmarks : (ps : PlainPairs) (k : List Mark) (us : PlainTerms) (stack : List PlainTerms) → unmarked k ≡ us ∷ stack → unmarked (pair_marks ps k) ≡ flat ps ∷ us ∷ stack
  pair_unmarks no_pair k us stack h = ap (λ st. none ∷ st) h
  pair_unmarks (one_pair l x ps) k us stack h = unmarks l (marks x (pair_marks ps k)) (one_more x (flat ps)) (us ∷ stack) (unmarks x (pair_marks ps k) (flat ps) (us ∷ stack) (pair_unmarks ps k us stack h))

-- two marks stand below all
abbrev pub stored : PlainTerms → List Mark
stored ts = all_marks ts (inr (5, []) ∷ [])

-- terms, stored as their marks
abbrev pub terms_code : Coded PlainTerms
terms_code =
    code_by (List Mark) (coded_list (coded⊎ coded_ℤ (coded× coded_ℕ (coded_list coded_ℕ)))) stored (λ ms. top (unmarked ms)) (λ ts. ap top (all_unmarks ts (inr (5, []) ∷ []) none [] refl))

-- a term, stored as a list of one
abbrev pub term_code : Coded PlainTerm
term_code = code_by PlainTerms terms_code (λ t. one_more t none) first (λ _. refl)

-- pairs, stored as the list of their keys and values, in turn
abbrev pub pairs_code : Coded PlainPairs
pairs_code = code_by PlainTerms terms_code flat paired paired-flat
