-- The terms of answers, one after another.
use Rattle.std.proofs.Common.{◌≡◌, ℕ, zero, suc, ◌<◌, ◌≤◌, List, [], ◌∷◌, ◌++◌, length, get_or, refl, ap, arith, false}
use Rattle.tab_term.specs.Canon.{all_bytes}
use Rattle.tab_term.specs.Data.{one_more, count, weight, nodes, plain_terms, terms_list}
use Rattle.tab_lists.specs.declared.answers.Answer.{Answer}
use Rattle.tab_lists.specs.declared.answers.Answer.TheVariants as is
use Rattle.tab_lists.specs.Answers.{answer_term, answers}

-- one more answer is one more term
pub answers_push : (xs : List Answer) (x : Answer) → answers (xs ++ x ∷ []) ≡ plain_terms (terms_list (answers xs) ++ answer_term x ∷ [])
answers_push [] x = refl
answers_push (y ∷ ys) x = ap (one_more (answer_term y)) (answers_push ys x)

pub count_answers : (xs : List Answer) → count (answers xs) ≡ length xs
count_answers [] = refl
count_answers (x ∷ xs) = ap suc (count_answers xs)

-- an answer weighs no more than all
pub answer_weight_at : (xs : List Answer) (i : ℕ) (x : Answer) → i < length xs → x ≡ get_or xs i x → weight (answer_term x) ≤ nodes (answers xs)
answer_weight_at [] i x h e = absurd (omega (arith, h))
answer_weight_at (y ∷ ys) zero x h e = rw e (omega arith)
answer_weight_at (y ∷ ys) (suc i) x h e = omega (arith, answer_weight_at ys i x (omega (arith, h)) e)

-- no answer is an integer, so that answers are never written as a string
pub no_bytes : (x : Answer) (xs : List Answer) → all_bytes (answers (x ∷ xs)) ≡ false
no_bytes is.Done xs = refl
no_bytes (is.Found rows) xs = refl
no_bytes (is.Aborted reason) xs = refl
no_bytes (is.Atomic inner) xs = refl
