-- The pairs of a map. They stand by their keys' canonical spellings, and no two keys are equal (this project's own rule).
use Rattle.std.specs.Prelude.{◌≡◌, Bool, false, ◌||◌}
use Rattle.std.specs.Ordering.{match_ordering}
use Rattle.std.specs.declared.cmp.Ordering.{Ordering}
use Rattle.std.specs.declared.cmp.Ordering.TheVariants.{Less}
use Rattle.tab_term.specs.Data.{PlainTerm, PlainPairs, no_pair, one_pair}
use Rattle.tab_term.specs.Canon.{canon}
use Rattle.tab_term.specs.Order.{bytes_cmp}
use Rattle.tab_term.specs.Same.{same}

-- keys by their canonical spellings, byte by byte
abbrev pub key_cmp : PlainTerm → PlainTerm → Ordering
key_cmp k l = bytes_cmp (canon k) (canon l)

-- each key is above k
abbrev pub AllAbove : PlainTerm → PlainPairs → Type 0
AllAbove k no_pair = Unit {0}
AllAbove k (one_pair l y ps) = (key_cmp k l ≡ Less) × AllAbove k ps

-- the keys ascend, so no two are equal
abbrev pub KeysAscend : PlainPairs → Type 0
KeysAscend no_pair = Unit {0}
KeysAscend (one_pair k x ps) = AllAbove k ps × KeysAscend ps

-- the second has the pairs of the first, and this one somewhere among them
pub data HasOneMore (k x : PlainTerm) : PlainPairs → PlainPairs → Type 0 where
  here : {ps : PlainPairs} → HasOneMore k x ps (one_pair k x ps)
  later : {l y : PlainTerm} {ps qs : PlainPairs} → HasOneMore k x ps qs → HasOneMore k x (one_pair l y ps) (one_pair l y qs)

-- one of the pairs has a key equal to k
abbrev pub has_key : PlainTerm → PlainPairs → Bool
has_key k no_pair = false
has_key k (one_pair l y ps) = same k l || has_key k ps

-- the pairs with one more, where its key belongs
abbrev pub put_pair : PlainTerm → PlainTerm → PlainPairs → PlainPairs
put_pair k x no_pair = one_pair k x no_pair
put_pair k x (one_pair l y ps) = match_ordering (key_cmp k l) (one_pair k x (one_pair l y ps)) (one_pair l x ps) (one_pair l y (put_pair k x ps))
