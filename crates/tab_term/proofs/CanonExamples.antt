-- Canonical spellings of single terms, as the External Term Format has them.
use Rattle.std.specs.Prelude.{◌≡◌, pos, negsuc, [], ◌∷◌, refl}
use Rattle.tab_term.specs.Data.{int, atom, tuple, list, bin, map, none, one_more, no_pair, one_pair}
use Rattle.tab_term.specs.Canon.{canon, int_contents, magnitude, significant, arity_field, list_contents, length_field, atom_length_field}

zero_is : canon (int (pos 0)) ≡ 97 ∷ 0 ∷ []
unfolding canon int_contents
zero_is = refl

largest_byte : canon (int (pos 255)) ≡ 97 ∷ 255 ∷ []
unfolding canon int_contents
largest_byte = refl

past_bytes : canon (int (pos 256)) ≡ 98 ∷ 0 ∷ 0 ∷ 1 ∷ 0 ∷ []
unfolding canon int_contents
past_bytes = refl

minus_one : canon (int (negsuc 0)) ≡ 98 ∷ 255 ∷ 255 ∷ 255 ∷ 255 ∷ []
unfolding canon int_contents
minus_one = refl

largest_of_four : canon (int (pos 2147483647)) ≡ 98 ∷ 127 ∷ 255 ∷ 255 ∷ 255 ∷ []
unfolding canon int_contents
largest_of_four = refl

past_four : canon (int (pos 2147483648)) ≡ 110 ∷ 4 ∷ 0 ∷ 0 ∷ 0 ∷ 0 ∷ 128 ∷ []
unfolding canon int_contents magnitude significant
past_four = refl

least_of_four : canon (int (negsuc 2147483647)) ≡ 98 ∷ 128 ∷ 0 ∷ 0 ∷ 0 ∷ []
unfolding canon int_contents
least_of_four = refl

below_four : canon (int (negsuc 2147483648)) ≡ 110 ∷ 4 ∷ 1 ∷ 1 ∷ 0 ∷ 0 ∷ 128 ∷ []
unfolding canon int_contents magnitude significant
below_four = refl

least : canon (int (negsuc 170141183460469231731687303715884105727)) ≡ 110 ∷ 16 ∷ 1 ∷ 0 ∷ 0 ∷ 0 ∷ 0 ∷ 0 ∷ 0 ∷ 0 ∷ 0 ∷ 0 ∷ 0 ∷ 0 ∷ 0 ∷ 0 ∷ 0 ∷ 0 ∷ 128 ∷ []
unfolding canon int_contents magnitude significant
least = refl

two_bytes : canon (list (one_more (int (pos 97)) (one_more (int (pos 98)) none))) ≡ 107 ∷ 0 ∷ 2 ∷ 97 ∷ 98 ∷ []
unfolding canon list_contents
two_bytes = refl

empty_list : canon (list none) ≡ 106 ∷ []
unfolding canon list_contents
empty_list = refl

empty_tuple : canon (tuple none) ≡ 104 ∷ 0 ∷ []
unfolding canon arity_field
empty_tuple = refl

one_tuple : canon (tuple (one_more (int (pos 7)) none)) ≡ 104 ∷ 1 ∷ 97 ∷ 7 ∷ []
unfolding canon arity_field int_contents
one_tuple = refl

latin_letter : canon (atom (195 ∷ 169 ∷ [])) ≡ 119 ∷ 2 ∷ 195 ∷ 169 ∷ []
unfolding canon atom_length_field
latin_letter = refl

three_bytes : canon (bin (1 ∷ 2 ∷ 3 ∷ [])) ≡ 109 ∷ 0 ∷ 0 ∷ 0 ∷ 3 ∷ 1 ∷ 2 ∷ 3 ∷ []
unfolding canon length_field
three_bytes = refl

one_pair_map : canon (map (one_pair (atom (97 ∷ [])) (int (pos 1)) no_pair)) ≡ 116 ∷ 0 ∷ 0 ∷ 0 ∷ 1 ∷ 119 ∷ 1 ∷ 97 ∷ 97 ∷ 1 ∷ []
unfolding canon length_field atom_length_field int_contents
one_pair_map = refl
