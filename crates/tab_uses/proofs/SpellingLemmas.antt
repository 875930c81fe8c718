-- What it says of two terms that they were compared.
use Rattle.std.proofs.Common.{◌≡◌, Bool, true, false, not, refl}
use Rattle.std.proofs.lemmas.Bool.{false≢true}
use Rattle.tab_term.specs.Data.{PlainTerm}
use Rattle.tab_term.specs.Same.{same, same-Decides}

is_true : (x : Bool) → not x ≡ false → x ≡ true
is_true true e = refl
is_true false e = absurd (false≢true cc)

-- terms that don't differ are one
pub one_term : (a b : PlainTerm) → not (same a b) ≡ false → a ≡ b
one_term a b e = (same-Decides a b).0 (is_true (same a b) e)
