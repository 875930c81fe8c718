-- Answers that are added to bytes.
use Rattle.std.proofs.Common.{◌≡◌, ℕ, ◌<◌, Bool, true, List, [], ◌∷◌, ◌++◌, length, refl, sym, ap, ◌∙◌, append_assoc, length-append, Ok, Err, codes, inl, inr, ◌+◌, ◌*◌, ◌≤◌, false, arith}
use Rattle.std.specs.Prelude.{IfOk, Result}
use Rattle.std.specs.Int.{w32, to_be_bytes}
use Rattle.tab_term.specs.Canon.{length_field, atom_length_field, canon, canons}
use Rattle.tab_term.specs.Data.{PlainTerms, atom, list, pair, none, count}
use Rattle.tab_lists.specs.declared.answers.Answer.{Answer}
use Rattle.tab_lists.specs.Answers.{answers}
use Rattle.tab_lists.proofs.AnswersLemmas.{count_answers}
use Rattle.tab_etf.specs.Listings.{IsPast}
use Rattle.tab_etf.proofs.SharedElements.{count_canons}
use Rattle.tab_etf.proofs.AnswersSpelled.{some_length, none_spelled, some_spelled}
use Rattle.tab_etf.proofs.CanonLemmas as is
use Rattle.tab_etf.proofs.OutlinesLemmas.{pair_canon, pair_length}

-- what follows from a whole value follows where a call tells that it added one
pub told_also : {E P Q : Type 0} (r : Result Bool E) → (P → Q) → IfOk r (λ b. b ≡ true → P) → IfOk r (λ b. b ≡ true → Q)
told_also (Ok b) f h = λ e. f (h e)
told_also (Err e) f h = tt

-- ---- what passes a bound

-- a part of it does
pub past_part : (most before part before' whole : ℕ) → before + 2 * part ≤ before' + 2 * whole → part ≤ whole → IsPast most before part → IsPast most before' whole
past_part most before part before' whole le more (inl lt) = inl (omega (arith, le, lt))
past_part most before part before' whole le more (inr long) = inr (omega (arith, long, more))

pub told_over : {E P Q : Type 0} (r : Result Bool E) → (P → Q) → IfOk r (λ b. b ≡ false → P) → IfOk r (λ b. b ≡ false → Q)
told_over (Ok b) f h = λ e. f (h e)
told_over (Err e) f h = tt

-- more answers than four bytes count
pub many_past : (xs : List Answer) (ts : PlainTerms) (most before : ℕ) → 4294967295 ≤ length xs → answers xs ≡ ts → IsPast most before (length (canon (list ts)))
many_past xs ts most before le same =
    inr (omega (arith, le, some_length xs (omega (arith, le)), count_canons (answers xs), count_answers xs, ap (λ us. length (canon (list us))) same))

-- ---- which bytes they are

pub ok_spelled : canon (atom (codes "ok")) ≡ 119 ∷ 2 ∷ codes "ok"
unfolding canon atom_length_field
ok_spelled = refl

pub none_added : (old after : List ℕ) (us ts : PlainTerms) → none ≡ us → us ≡ ts → after ≡ old ++ 106 ∷ [] → after ≡ old ++ canon (list ts)
none_added old after us ts e f h = h ∙ ap (λ (r : List ℕ). old ++ r) (sym none_spelled ∙ ap (λ vs. canon (list vs)) (e ∙ f))

word_spelled : canon (atom (codes "atomic")) ≡ 119 ∷ 6 ∷ codes "atomic"
unfolding canon atom_length_field
word_spelled = refl

pub atomic_spelled : (old before after : List ℕ) (ts : PlainTerms) → before ≡ old ++ (104 ∷ 2 ∷ 119 ∷ 6 ∷ codes "atomic") → after ≡ before ++ canon (list ts) → after ≡ old ++ canon (pair (atom (codes "atomic")) (list ts))
atomic_spelled old before after ts b a =
    a ∙ ap (λ (r : List ℕ). r ++ canon (list ts)) b
    ∙ append_assoc old (104 ∷ 2 ∷ 119 ∷ 6 ∷ codes "atomic") (canon (list ts))
    ∙ ap (λ (r : List ℕ). old ++ (104 ∷ 2 ∷ (r ++ canon (list ts)))) (sym word_spelled)
    ∙ ap (λ (r : List ℕ). old ++ r) (sym (pair_canon (atom (codes "atomic")) (list ts)))

pub atomic_past : (most : ℕ) (old before : List ℕ) (ts : PlainTerms) → before ≡ old ++ (104 ∷ 2 ∷ 119 ∷ 6 ∷ codes "atomic")
    → IsPast most (length before) (length (canon (list ts))) → IsPast most (length old) (length (canon (pair (atom (codes "atomic")) (list ts))))
atomic_past most old before ts b h =
    let both = pair_length (atom (codes "atomic")) (list ts) in
    past_part most (length before) (length (canon (list ts))) (length old) (length (canon (pair (atom (codes "atomic")) (list ts))))
    (omega (arith, ap length b, length-append old (104 ∷ 2 ∷ 119 ∷ 6 ∷ codes "atomic"), both, ap length word_spelled))
    (omega (arith, both))
    h

pub elements_past : (most : ℕ) (old head bytes : List ℕ) (xs : List Answer) (ts : PlainTerms) (n : ℕ) → 0 < length xs → n ≡ length xs → n < 4294967295 → head ≡ old ++ bytes → bytes ≡ 108 ∷ to_be_bytes w32 n → answers xs ≡ ts
    → IsPast most (length head) (length (canons (answers xs))) → IsPast most (length old) (length (canon (list ts)))
elements_past most old head bytes xs ts n some e lt h b same p =
    let field = ap length (is.length_short n lt) in
    let counted = ap (λ m. length (length_field m)) (e ∙ sym (count_answers xs)) in
    let whole = some_length xs some in
    let told = ap (λ us. length (canon (list us))) same in
    past_part most (length head) (length (canons (answers xs))) (length old) (length (canon (list ts)))
    (omega (arith, ap length h, length-append old bytes, ap length b, whole, told, field, counted))
    (omega (arith, whole, told))
    p

pub list_spelled : (old head bytes all after : List ℕ) (xs : List Answer) (ts : PlainTerms) (n : ℕ) → 0 < length xs → n ≡ length xs → n < 4294967295
    → head ≡ old ++ bytes → bytes ≡ 108 ∷ to_be_bytes w32 n → all ≡ head ++ canons (answers xs) → after ≡ all ++ 106 ∷ [] → answers xs ≡ ts → after ≡ old ++ canon (list ts)
list_spelled old head bytes all after xs ts n some e lt h b a z same =
    let counted : n ≡ count (answers xs) = e ∙ sym (count_answers xs) in
    let field : length_field n ≡ to_be_bytes w32 n = is.length_short n lt in
    z ∙ ap (λ (r : List ℕ). r ++ 106 ∷ []) (a ∙ ap (λ (r : List ℕ). r ++ canons (answers xs)) (h ∙ ap (λ (r : List ℕ). old ++ r) b))
    ∙ append_assoc (old ++ 108 ∷ to_be_bytes w32 n) (canons (answers xs)) (106 ∷ [])
    ∙ append_assoc old (108 ∷ to_be_bytes w32 n) (canons (answers xs) ++ 106 ∷ [])
    ∙ ap (λ (r : List ℕ). old ++ (108 ∷ (r ++ (canons (answers xs) ++ 106 ∷ [])))) (sym field)
    ∙ ap (λ m. old ++ (108 ∷ (length_field m ++ (canons (answers xs) ++ 106 ∷ [])))) counted
    ∙ ap (λ (r : List ℕ). old ++ r) (sym (append_assoc (108 ∷ length_field (count (answers xs))) (canons (answers xs)) (106 ∷ [])))
    ∙ ap (λ (r : List ℕ). old ++ r) (sym (some_spelled xs some))
    ∙ ap (λ us. old ++ canon (list us)) same
