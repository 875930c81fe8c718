-- Answers, one after another.
use Rattle.std.proofs.Common.{◌≡◌, [], ◌∷◌, ◌++◌, refl, ap}
use Rattle.tab_term.specs.Data.{PlainTerm, PlainTerms, none, one_more, plain_terms, terms_list}
use Rattle.tab_oneshot.specs.Attempts.{with_last}

pub one_more_last : (ts : PlainTerms) (t : PlainTerm) → plain_terms (terms_list ts ++ t ∷ []) ≡ with_last ts t
one_more_last none t = refl
one_more_last (one_more u us) t = ap (one_more u) (one_more_last us t)
