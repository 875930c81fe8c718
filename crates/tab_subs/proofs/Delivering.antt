-- A delivery, one subscriber after another.
use Rattle.std.proofs.Common.{◌≡◌, ◌+◌, ℕ, zero, suc, ◌<◌, ◌≤◌, List, [], ◌∷◌, ◌++◌, Bool, true, false, ◌||◌, refl, sym, ap, ap₂, ◌∙◌, subst, take, drop, length, get_or, set, arith, add-one}
use Rattle.std.specs.Prelude.{◌==◌, if◌then◌else◌, Option, None, Some, IsSome, option_to_list}
use Rattle.std.proofs.lemmas.Bool.{ne_eqb, eq-eqb, or_parts, false≢true}
use Rattle.std.proofs.lemmas.List.{append_assoc, append-nil, drop-set-lt}
use Rattle.std.proofs.Math.Seq.{take-suc-set, drop-cons, map-set_same}
use Rattle.tab_model.specs.declared.data.Item.{Item}
use Rattle.tab_model.specs.Log.{has_session}
use Rattle.tab_model.specs.State.{Outbox}
use Rattle.tab_subs.specs.Subscribers.{Subscriber, overflowed, given, numbers, Ascends, AllAbove}
use Rattle.tab_subs.specs.Deliveries.{first_of, rest_of, unwatched, given_all, received, joined_if, those_in, IsDecided, AreDecided, Owed, Delivers}

-- ---- by who refused, one after another

abbrev pub first_bit : List Bool → Bool
first_bit [] = false
first_bit (b ∷ bs) = b

abbrev pub rest_bits : List Bool → List Bool
rest_bits [] = []
rest_bits (b ∷ bs) = bs

abbrev pub given_by : {T : Type 0} → ℕ → List Bool → Option (List ℕ) → List (List Item) → List (Subscriber T) → List (Subscriber T)
given_by n bs t items [] = []
given_by n bs t items (s ∷ ss) = received n (first_bit bs) (first_of items) (unwatched t s) ∷ given_by n (rest_bits bs) t (rest_of items) ss

abbrev pub refusing : {T : Type 0} → List Bool → List (Subscriber T) → List ℕ
refusing bs [] = []
refusing bs (s ∷ ss) = joined_if (first_bit bs) s.number (refusing (rest_bits bs) ss)

abbrev pub AreDecidedBy : {T : Type 0} → List Bool → List (List Item) → List (Subscriber T) → Type 0
AreDecidedBy bs items [] = Unit {0}
AreDecidedBy bs items (s ∷ ss) = IsDecided (first_bit bs) (first_of items) s.outbox × AreDecidedBy (rest_bits bs) (rest_of items) ss

-- ---- who refused is in the list of those who did, and nobody else

abbrev Absent : List ℕ → List ℕ → Type 0
Absent over [] = Unit {0}
Absent over (m ∷ ms) = (has_session over m ≡ false) × Absent over ms

abbrev Agree : {T : Type 0} → List ℕ → List Bool → List (Subscriber T) → Type 0
Agree over bs [] = Unit {0}
Agree over bs (s ∷ ss) = (has_session over s.number ≡ first_bit bs) × Agree over (rest_bits bs) ss

absent_append : (xs ys : List ℕ) (m : ℕ) → has_session xs m ≡ false → has_session ys m ≡ false → has_session (xs ++ ys) m ≡ false
absent_append [] ys m h k = k
absent_append (x ∷ xs) ys m h k =
    let p = or_parts (x == m) (has_session xs m) h in
    ap₂ (λ a b. a || b) p.0 (absent_append xs ys m p.1 k)

present_append : (xs ys : List ℕ) (m : ℕ) → has_session xs m ≡ false → has_session (xs ++ m ∷ ys) m ≡ true
present_append [] ys m h = ap (λ a. a || has_session ys m) (eq-eqb m m refl)
present_append (x ∷ xs) ys m h =
    let p = or_parts (x == m) (has_session xs m) h in
    ap₂ (λ a b. a || b) p.0 (present_append xs ys m p.1)

absent_if : (b : Bool) (m n : ℕ) (ns : List ℕ) → m < n → has_session ns m ≡ false → has_session (joined_if b n ns) m ≡ false
absent_if true m n ns lt h = ap₂ (λ x y. x || y) (ne_eqb n m (λ e. absurd (omega (arith, e)))) h
absent_if false m n ns lt h = h

absent_refusing : {T : Type 0} (m : ℕ) (bs : List Bool) (ss : List (Subscriber T)) → AllAbove m (numbers ss) → has_session (refusing bs ss) m ≡ false
absent_refusing m bs [] h = refl
absent_refusing m bs (s ∷ ss) h = absent_if (first_bit bs) m s.number (refusing (rest_bits bs) ss) h.0 (absent_refusing m (rest_bits bs) ss h.1)

absent_more : (before : List ℕ) (n : ℕ) (ms : List ℕ) → Absent before ms → AllAbove n ms → Absent (before ++ n ∷ []) ms
absent_more before n [] h above = tt
absent_more before n (m ∷ ms) h above =
    (absent_append before (n ∷ []) m h.0 (ap (λ a. a || false) (ne_eqb n m (λ e. absurd (omega (arith, e, above.0))))), absent_more before n ms h.1 above.1)

agree_if : {T : Type 0} (b : Bool) (before : List ℕ) (bs : List Bool) (s : Subscriber T) (ss : List (Subscriber T)) → has_session before s.number ≡ false → has_session (refusing bs ss) s.number ≡ false
    → Agree ((before ++ s.number ∷ []) ++ refusing bs ss) bs ss → Agree (before ++ refusing bs ss) bs ss
    → (has_session (before ++ joined_if b s.number (refusing bs ss)) s.number ≡ b) × Agree (before ++ joined_if b s.number (refusing bs ss)) bs ss
agree_if true before bs s ss h k last rest =
    (present_append before (refusing bs ss) s.number h, subst (λ o. Agree o bs ss) (append_assoc before (s.number ∷ []) (refusing bs ss)) last)
agree_if false before bs s ss h k last rest = (absent_append before (refusing bs ss) s.number h k, rest)

agree : {T : Type 0} (before : List ℕ) (bs : List Bool) (ss : List (Subscriber T)) → Absent before (numbers ss) → Ascends (numbers ss) → Agree (before ++ refusing bs ss) bs ss
agree before bs [] h up = tt
agree before bs (s ∷ ss) h up =
    agree_if (first_bit bs) before (rest_bits bs) s ss h.0 (absent_refusing s.number (rest_bits bs) ss up.0)
    (agree (before ++ s.number ∷ []) (rest_bits bs) ss (absent_more before s.number (numbers ss) h.1 up.0) up.1)
    (agree before (rest_bits bs) ss h.1 up.1)

absent_none : (ms : List ℕ) → Absent [] ms
absent_none [] = tt
absent_none (m ∷ ms) = (refl, absent_none ms)

pub number-unwatched : {T : Type 0} (t : Option (List ℕ)) (s : Subscriber T) → (unwatched t s).number ≡ s.number
number-unwatched None s = refl
number-unwatched (Some t) s = refl

pub number-received : {T : Type 0} (n : ℕ) (b : Bool) (items : List Item) (s : Subscriber T) → (received n b items s).number ≡ s.number
number-received n true items s = refl
number-received n false items s = refl

given_is : {T : Type 0} (n : ℕ) (over : List ℕ) (items : List Item) (s : Subscriber T) (b : Bool) → has_session over s.number ≡ b → given n over items s ≡ received n b items s
given_is n over items s true h = λ j. if h j then overflowed n s else received n false items s
given_is n over items s false h = λ j. if h j then overflowed n s else received n false items s

by_session : {T : Type 0} (over : List ℕ) (bs : List Bool) (n : ℕ) (t : Option (List ℕ)) (items : List (List Item)) (ss : List (Subscriber T)) → Agree over bs ss → given_by n bs t items ss ≡ given_all n over t items ss
by_session over bs n t items [] a = refl
by_session over bs n t items (s ∷ ss) a =
    ap₂ (λ x xs. x ∷ xs) (sym (given_is n over (first_of items) (unwatched t s) (first_bit bs) (ap (has_session over) (number-unwatched t s) ∙ a.0)))
    (by_session over (rest_bits bs) n t (rest_of items) ss a.1)

who_refused : {T : Type 0} (over : List ℕ) (bs : List Bool) (ss : List (Subscriber T)) → Agree over bs ss → refusing bs ss ≡ those_in over ss
who_refused over bs [] a = refl
who_refused over bs (s ∷ ss) a = ap₂ (λ b ns. joined_if b s.number ns) (sym a.0) (who_refused over (rest_bits bs) ss a.1)

decided_by_session : {T : Type 0} (over : List ℕ) (bs : List Bool) (items : List (List Item)) (ss : List (Subscriber T)) → Agree over bs ss → AreDecidedBy bs items ss → AreDecided over items ss
decided_by_session over bs items [] a d = tt
decided_by_session over bs items (s ∷ ss) a d =
    (subst (λ b. IsDecided b (first_of items) s.outbox) (sym a.0) d.0, decided_by_session over (rest_bits bs) (rest_of items) ss a.1 d.1)

-- ---- the loop

-- the subscribers before place i have received theirs, and the others are still due what is due
pub record IsUnderWay {T : Type 0} (n : ℕ) (t : Option (List ℕ)) (items : List (List Item)) (old : List (Subscriber T)) (over : List ℕ) (due : List (List Item)) (now : List (Subscriber T)) (i : ℕ) : Type 0 where
  pub bits : List Bool
  pub given : (bs : List Bool) → given_by n (bits ++ bs) t items old ≡ take i now ++ given_by n bs t due (drop i now)
  pub over_is : (bs : List Bool) → refusing (bits ++ bs) old ≡ over ++ refusing bs (drop i now)
  pub decided : (bs : List Bool) → AreDecidedBy bs due (drop i now) → AreDecidedBy (bits ++ bs) items old

pub none_yet : {T : Type 0} (n : ℕ) (t : Option (List ℕ)) (items : List (List Item)) (ss : List (Subscriber T)) → IsUnderWay n t items ss [] items ss 0
none_yet n t items ss = record { bits = []; given = λ bs. refl; over_is = λ bs. refl; decided = λ bs d. d }

over_step : (b : Bool) (over : List ℕ) (m : ℕ) (later : List ℕ) → over ++ joined_if b m later ≡ (over ++ joined_if b m []) ++ later
over_step true over m later = sym (append_assoc over (m ∷ []) later)
over_step false over m later = sym (append_assoc over [] later)

pub one_more_given : {T : Type 0} (n : ℕ) (t : Option (List ℕ)) (items : List (List Item)) (old : List (Subscriber T)) (over : List ℕ) (due : List (List Item)) (now : List (Subscriber T)) (i : ℕ) (s y : Subscriber T) (b : Bool)
    → i < length now → s ≡ get_or now i s → y ≡ received n b (first_of due) (unwatched t s) → IsDecided b (first_of due) s.outbox
    → IsUnderWay n t items old over due now i → IsUnderWay n t items old (over ++ joined_if b s.number []) (rest_of due) (set now i y) (suc i)
one_more_given n t items old over due now i s y b lt is new d way = record {
  bits = way.bits ++ b ∷ [];
  given = λ bs.
      ap (λ z. given_by n z t items old) (append_assoc way.bits (b ∷ []) bs) ∙ way.given (b ∷ bs)
      ∙ ap (λ z. take i now ++ given_by n (b ∷ bs) t due z) from_here
      ∙ ap (λ z. take i now ++ z ∷ given_by n bs t (rest_of due) (drop (suc i) now)) (sym new)
      ∙ sym (append_assoc (take i now) (y ∷ []) (given_by n bs t (rest_of due) (drop (suc i) now)))
      ∙ ap₂ (λ u v. u ++ given_by n bs t (rest_of due) v) (sym (take-suc-set now i y lt)) (sym (drop-set-lt (suc i) now i y (omega arith)));
  over_is = λ bs.
      ap (λ z. refusing z old) (append_assoc way.bits (b ∷ []) bs) ∙ way.over_is (b ∷ bs)
      ∙ ap (λ z. over ++ refusing (b ∷ bs) z) from_here
      ∙ over_step b over s.number (refusing bs (drop (suc i) now))
      ∙ ap (λ z. (over ++ joined_if b s.number []) ++ refusing bs z) (sym (drop-set-lt (suc i) now i y (omega arith)));
  decided = λ bs later.
      subst (λ z. AreDecidedBy z items old) (sym (append_assoc way.bits (b ∷ []) bs))
      (way.decided (b ∷ bs) (subst (AreDecidedBy (b ∷ bs) due) (sym from_here) (d, subst (AreDecidedBy bs (rest_of due)) (drop-set-lt (suc i) now i y (omega arith)) later)));
}
  where
    from_here : drop i now ≡ s ∷ drop (suc i) now
    from_here = drop-cons now i s lt ∙ ap (λ z. z ∷ drop (suc i) now) (sym is)

all_dropped : {T : Type 0} (ss : List (Subscriber T)) (i : ℕ) → length ss ≤ i → drop i ss ≡ []
all_dropped [] zero le = refl
all_dropped [] (suc i) le = refl
all_dropped (x ∷ ss) zero le = absurd (omega arith)
all_dropped (x ∷ ss) (suc i) le = all_dropped ss i (omega arith)

all_taken : {T : Type 0} (ss : List (Subscriber T)) (i : ℕ) → length ss ≤ i → take i ss ≡ ss
all_taken [] zero le = refl
all_taken [] (suc i) le = refl
all_taken (x ∷ ss) zero le = absurd (omega arith)
all_taken (x ∷ ss) (suc i) le = ap (λ vs. x ∷ vs) (all_taken ss i (omega arith))

pub all_given : {T : Type 0} (expected : Owed) (old : List (Subscriber T)) (over : List ℕ) (due : List (List Item)) (now : List (Subscriber T)) (i : ℕ) → length now ≤ i → Ascends (numbers old)
    → IsUnderWay expected.number expected.ended expected.items old over due now i → Delivers expected old now over
all_given expected old over due now i le up way = record {
  over_are = sym over_bits ∙ who_refused over way.bits old same;
  given = sym given_bits ∙ by_session over way.bits expected.number expected.ended expected.items old same;
  decided = decided_by_session over way.bits expected.items old same bits_decided;
}
  where
    given_bits : given_by expected.number way.bits expected.ended expected.items old ≡ now
    given_bits =
        ap (λ z. given_by expected.number z expected.ended expected.items old) (sym (append-nil way.bits)) ∙ way.given []
        ∙ ap₂ (λ u v. u ++ given_by expected.number [] expected.ended due v) (all_taken now i le) (all_dropped now i le) ∙ append-nil now

    over_bits : refusing way.bits old ≡ over
    over_bits = ap (λ z. refusing z old) (sym (append-nil way.bits)) ∙ way.over_is [] ∙ ap (λ z. over ++ refusing [] z) (all_dropped now i le) ∙ append-nil over

    same : Agree over way.bits old
    same = subst (λ o. Agree o way.bits old) over_bits (agree [] way.bits old (absent_none (numbers old)) up)

    bits_decided : AreDecidedBy way.bits expected.items old
    bits_decided = subst (λ z. AreDecidedBy z expected.items old) (append-nil way.bits) (way.decided [] (subst (AreDecidedBy [] due) (sym (all_dropped now i le)) tt))

pub step : {T : Type 0} (n : ℕ) (t : Option (List ℕ)) (items : List (List Item)) (old : List (Subscriber T)) (over : List ℕ) (due : List (List Item)) (now : List (Subscriber T)) (i : ℕ) (s y : Subscriber T) (b : Bool) (over' : List ℕ) (due' : List (List Item))
    → i < length now → s ≡ get_or now i s → y ≡ received n b (first_of due) (unwatched t s) → IsDecided b (first_of due) s.outbox
    → over' ≡ over ++ joined_if b s.number [] → due' ≡ rest_of due
    → IsUnderWay n t items old over due now i → IsUnderWay n t items old over' due' (set now i y) (i + 1)
step n t items old over due now i s y b over' due' lt is new d o r way =
    subst (λ z. IsUnderWay n t items old z due' (set now i y) (i + 1)) (sym o)
    (subst (λ z. IsUnderWay n t items old (over ++ joined_if b s.number []) z (set now i y) (i + 1)) (sym r)
    (subst (λ z. IsUnderWay n t items old (over ++ joined_if b s.number []) (rest_of due) (set now i y) z) (sym (add-one i))
    (one_more_given n t items old over due now i s y b lt is new d way)))

pub same_numbers : {T : Type 0} (n : ℕ) (t : Option (List ℕ)) (items : List Item) (now : List (Subscriber T)) (i : ℕ) (s y : Subscriber T) (b : Bool) → s ≡ get_or now i s → y ≡ received n b items (unwatched t s) → numbers (set now i y) ≡ numbers now
same_numbers n t items now i s y b is new =
    map-set_same (λ (v : Subscriber _). v.number) now i y s (ap (λ (v : Subscriber _). v.number) new ∙ number-received n b items (unwatched t s) ∙ number-unwatched t s ∙ ap (λ (v : Subscriber _). v.number) is)

pub is_expected : (b : Bool) (o : Option Item) (x : Outbox) → IsDecided b (option_to_list o) x → b ≡ true → IsSome o
is_expected b None x d e = absurd (false≢true (sym d ∙ e))
is_expected b (Some i) x d e = refl

pub written_back : {X : Type 0} (xs ys : List X) (n : ℕ) → length xs ≡ n → take n (xs ++ ys) ≡ xs
written_back xs ys n e = subst (λ m. take m (xs ++ ys) ≡ xs) e (whole xs ys)
  where
    whole : {X : Type 0} (xs ys : List X) → take (length xs) (xs ++ ys) ≡ xs
    whole [] ys = refl
    whole (x ∷ xs) ys = ap (λ zs. x ∷ zs) (whole xs ys)
