-- The answers of a committed child are smaller than the answers that it stands among.
use Rattle.std.specs.Prelude.{◌≤◌, List, [], ◌∷◌}
use Rattle.std.proofs.Common.{arith}
use denote.Param.Weighed.{most}
use Rattle.tab_term.specs.Data.{weight, nodes}
use Rattle.tab_lists.specs.declared.answers.Answer.{Answer}
use Rattle.tab_lists.specs.declared.answers.Answer.TheVariants as is
use Rattle.tab_lists.specs.declared.answers.Answers.TheDeep.{deep-Answer}
use Rattle.tab_lists.specs.Answers.{answer_term, answers}

-- the answers in an answer have fewer terms in them than the answer
pub one_falls : (a : Answer) → deep-Answer a ≤ weight (answer_term a)
one_falls is.Done = omega arith
one_falls (is.Found rows) = omega arith
one_falls (is.Aborted reason) = omega arith
one_falls (is.Atomic inner) = omega arith

-- the answers in each of these have fewer terms in them than all these together
pub all_fall : (xs : List Answer) → most deep-Answer xs ≤ nodes (answers xs)
all_fall [] = omega arith
all_fall (x ∷ xs) = omega (arith, one_falls x, all_fall xs)
