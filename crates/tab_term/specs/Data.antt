-- What a term is (ERTS User's Guide, External Term Format): an integer, an atom as the UTF-8 bytes of its text, a tuple,
-- a proper list, a binary, or a map.
use Rattle.std.specs.Prelude.{ℕ, suc, max, ℤ, ◌+◌, List, [], ◌∷◌, Bool, true, false}

mutual
  -- a term; an atom is its text's bytes in UTF-8, and a map has its pairs in the order of its making
  pub data PlainTerm : Type 0 where
    int : ℤ → PlainTerm
    atom : List ℕ → PlainTerm
    tuple : PlainTerms → PlainTerm
    list : PlainTerms → PlainTerm
    bin : List ℕ → PlainTerm
    map : PlainPairs → PlainTerm  -- its pairs as it was built with

  -- the elements of a tuple or a list
  pub data PlainTerms : Type 0 where
    none : PlainTerms
    one_more : PlainTerm → PlainTerms → PlainTerms

  -- the pairs of a map, each a key and its value
  pub data PlainPairs : Type 0 where
    no_pair : PlainPairs
    one_pair : PlainTerm → PlainTerm → PlainPairs → PlainPairs

-- the term is an atom
abbrev pub is_atom : PlainTerm → Bool
is_atom (atom s) = true
is_atom t = false

-- the term is a tuple
abbrev pub is_tuple : PlainTerm → Bool
is_tuple (tuple ts) = true
is_tuple t = false

-- the term is a list
abbrev pub is_list : PlainTerm → Bool
is_list (list ts) = true
is_list t = false

-- tuples of two and of three
abbrev pub pair : PlainTerm → PlainTerm → PlainTerm
pair a b = tuple (one_more a (one_more b none))

-- {A, B, C}
abbrev pub triple : PlainTerm → PlainTerm → PlainTerm → PlainTerm
triple a b c = tuple (one_more a (one_more b (one_more c none)))

-- the elements of a tuple or a list as a list of terms, and back
abbrev pub plain_terms : List PlainTerm → PlainTerms
plain_terms [] = none
plain_terms (t ∷ ts) = one_more t (plain_terms ts)

-- the elements as a list of terms
abbrev pub terms_list : PlainTerms → List PlainTerm
terms_list none = []
terms_list (one_more t ts) = t ∷ terms_list ts

-- how many elements there are
abbrev pub count : PlainTerms → ℕ
count none = 0
count (one_more t ts) = suc (count ts)

-- how many pairs there are
abbrev pub pair_count : PlainPairs → ℕ
pair_count no_pair = 0
pair_count (one_pair k x ps) = suc (pair_count ps)

-- 1 for what holds no term, else one more than the deepest member
abbrev mutual
  -- how many levels a term has
  pub depth : PlainTerm → ℕ
  depth (int z) = 1
  depth (atom s) = 1
  depth (tuple ts) = suc (depths ts)
  depth (list ts) = suc (depths ts)
  depth (bin b) = 1
  depth (map ps) = suc (pair_depths ps)

  -- the levels of the deepest of these terms, 0 where there is none
  pub depths : PlainTerms → ℕ
  depths none = 0
  depths (one_more t ts) = max (depth t) (depths ts)

  -- the levels of the deepest key or value, 0 where there is none
  pub pair_depths : PlainPairs → ℕ
  pair_depths no_pair = 0
  pair_depths (one_pair k x ps) = max (max (depth k) (depth x)) (pair_depths ps)

-- how many terms stand inside, at any depth
abbrev mutual
  -- how many terms a term has in it, itself among them
  pub weight : PlainTerm → ℕ
  weight (int z) = 1
  weight (atom s) = 1
  weight (tuple ts) = suc (nodes ts)
  weight (list ts) = suc (nodes ts)
  weight (bin b) = 1
  weight (map ps) = suc (pair_nodes ps)

  -- how many terms these have in them, themselves among them
  pub nodes : PlainTerms → ℕ
  nodes none = 0
  nodes (one_more t ts) = weight t + nodes ts

  -- how many terms the keys and values have in them, themselves among them
  pub pair_nodes : PlainPairs → ℕ
  pair_nodes no_pair = 0
  pair_nodes (one_pair k x ps) = weight k + weight x + pair_nodes ps
