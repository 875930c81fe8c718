-- How the answers of a transaction are spelled, and how long that is.
use Rattle.std.proofs.Common.{◌≡◌, ℕ, zero, suc, ◌+◌, ◌^◌, ◌<◌, ◌≤◌, List, [], ◌∷◌, ◌++◌, length, take, get_or, refl, sym, ap, ◌∙◌, arith, Bool, true, false, true≢false, nat_lt, ◌==◌, append_assoc, append-nil, length-append}
use Rattle.std.proofs.Math.Bool.{and-false}
use Rattle.std.proofs.lemmas.Bool.{ne_eqb}
use Rattle.std.proofs.lemmas.List.{take_more}
use Rattle.tab_term.specs.Canon.{list_tag, length_field, canon, canons}
use Rattle.tab_term.specs.Data.{none, list, count}
use Rattle.tab_lists.specs.declared.answers.Answer.{Answer}
use Rattle.tab_lists.specs.Answers.{answer_term, answers}
use Rattle.tab_lists.proofs.AnswersLemmas.{no_bytes}
use Rattle.tab_etf.proofs.CanonLemmas.{list_none, list_others}

-- ---- a list

-- there are answers, or there are none
pub some_in : (xs : List Answer) {b : Bool} → b ≡ (length xs == 0) → b ≡ false → 0 < length xs
some_in [] e f = absurd (true≢false (sym e ∙ f))
some_in (x ∷ xs) e f = omega arith

pub none_in : (xs : List Answer) {b : Bool} → b ≡ (length xs == 0) → b ≡ true → none ≡ answers xs
none_in [] e f = refl
none_in (x ∷ xs) e f = absurd (true≢false (sym f ∙ e ∙ ne_eqb (length (x ∷ xs)) 0 (omega arith)))

-- one answer and more are written as a list, and not as a string
tag_is : (x : Answer) (xs : List Answer) → list_tag (answers (x ∷ xs)) ≡ 108
tag_is x xs =
    let u : (suc (count (answers xs)) == 0) ≡ false = ne_eqb _ _ (omega arith) in
    rw (no_bytes x xs, and-false (nat_lt (suc (count (answers xs))) (2 ^ 16)), u) refl

pub some_spelled : (xs : List Answer) → 0 < length xs → canon (list (answers xs)) ≡ 108 ∷ length_field (count (answers xs)) ++ canons (answers xs) ++ 106 ∷ []
unfolding canon
some_spelled [] h = absurd (omega (arith, h))
some_spelled (x ∷ xs) h = list_others (answers (x ∷ xs)) (λ e. absurd (omega (arith, e, tag_is x xs))) (λ e. absurd (omega (arith, e, tag_is x xs)))

pub some_length : (xs : List Answer) → 0 < length xs → length (canon (list (answers xs))) ≡ 2 + length (length_field (count (answers xs))) + length (canons (answers xs))
some_length xs h =
    omega (
      arith,
      ap length (some_spelled xs h),
      length-append (length_field (count (answers xs)) ++ canons (answers xs)) (106 ∷ []),
      length-append (length_field (count (answers xs))) (canons (answers xs)),
    )

pub none_spelled : canon (list none) ≡ 106 ∷ []
unfolding canon
none_spelled = list_none none refl

-- ---- one answer more

canons-push : (xs : List Answer) (x : Answer) → canons (answers (xs ++ x ∷ [])) ≡ canons (answers xs) ++ canon (answer_term x)
unfolding canon
canons-push [] x = append-nil (canon (answer_term x))
canons-push (y ∷ ys) x = ap (λ (r : List ℕ). canon (answer_term y) ++ r) (canons-push ys x) ∙ sym (append_assoc (canon (answer_term y)) (canons (answers ys)) (canon (answer_term x)))

pub answers_next : (xs : List Answer) (i : ℕ) (x : Answer) → i < length xs → x ≡ get_or xs i x → canons (answers (take (i + 1) xs)) ≡ canons (answers (take i xs)) ++ canon (answer_term x)
answers_next xs i x lt e = ap (λ ys. canons (answers ys)) (take_more xs i x lt) ∙ canons-push (take i xs) (get_or xs i x) ∙ ap (λ y. canons (answers (take i xs)) ++ canon (answer_term y)) (sym e)

pub answers_more : (xs : List Answer) (i : ℕ) (x : Answer) → i < length xs → x ≡ get_or xs i x → length (canons (answers (take (i + 1) xs))) ≡ length (canons (answers (take i xs))) + length (canon (answer_term x))
answers_more xs i x lt e = ap length (answers_next xs i x lt e) ∙ length-append (canons (answers (take i xs))) (canon (answer_term x))

-- an answer is no longer than all
pub answer_within : (xs : List Answer) (i : ℕ) (x : Answer) → i < length xs → x ≡ get_or xs i x → length (canon (answer_term x)) ≤ length (canons (answers xs))
unfolding canon
answer_within [] i x h e = absurd (omega (arith, h))
answer_within (y ∷ ys) zero x h e = rw e (omega (arith, length-append (canon (answer_term y)) (canons (answers ys))))
answer_within (y ∷ ys) (suc i) x h e = omega (arith, answer_within ys i x (omega (arith, h)) e, length-append (canon (answer_term y)) (canons (answers ys)))

-- the answers before it and itself are no longer than all
pub answers_upto : (xs : List Answer) (i : ℕ) (x : Answer) → i < length xs → x ≡ get_or xs i x → length (canons (answers (take i xs))) + length (canon (answer_term x)) ≤ length (canons (answers xs))
unfolding canon
answers_upto [] i x h e = absurd (omega (arith, h))
answers_upto (y ∷ ys) zero x h e = rw e (omega (arith, length-append (canon (answer_term y)) (canons (answers ys))))
answers_upto (y ∷ ys) (suc i) x h e =
    omega (
      arith,
      answers_upto ys i x (omega (arith, h)) e,
      length-append (canon (answer_term y)) (canons (answers ys)),
      length-append (canon (answer_term y)) (canons (answers (take i ys))),
    )
