-- Who refuses, decided one after another.
use Rattle.std.proofs.Common.{◌≡◌, ℕ, suc, ◌≤◌, List, [], ◌∷◌, Bool, true, false, refl, sym, ap, ◌∙◌, subst, arith, length, map, Option, Some, None, inl, inr}
use Rattle.std.specs.Prelude.{nat_le, is_some, if◌then◌else◌, IfSome}
use Rattle.std.specs.List.{filter}
use Rattle.tab_model.specs.declared.data.Item.{Item}
use Rattle.tab_model.specs.State.{Session}
use Rattle.tab_model.specs.Run.{IsSublist, has_capacity, is_filled, is_full, IsSplitByOverflow}

-- each who is handed an item refuses it or not; where its capacity is known, that decides
abbrev pub IsSplit : List Session → List ℕ → Type 0
IsSplit [] over = over ≡ []
IsSplit (s ∷ sessions) over =
    (b : Bool) × (rest : List ℕ) × (over ≡ (if b then s.number ∷ rest else rest))
    × IfSome s.outbox.capacity (λ c. b ≡ nat_le c (length s.outbox.items)) × IsSplit sessions rest

-- none is handed an item
pub none_handed : IsSplitByOverflow [] []
none_handed = record { refusers = []; numbers = refl; among = tt; full = refl }

-- ---- what is decided one after another

refuses_first : (s : Session) (items : List Item) (o : Option ℕ) (xs ys : List Session) → IfSome o (λ c. true ≡ nat_le c (length items)) → xs ≡ ys
    → (if is_some o then s ∷ xs else xs) ≡ (if is_filled items o then s ∷ ys else ys)
refuses_first s items None xs ys h e = e
refuses_first s items (Some c) xs ys h e = λ i. if h i then s ∷ e i else ys

takes_first : (s : Session) (items : List Item) (o : Option ℕ) (xs ys : List Session) → IfSome o (λ c. false ≡ nat_le c (length items)) → xs ≡ ys → xs ≡ (if is_filled items o then s ∷ ys else ys)
takes_first s items None xs ys h e = e
takes_first s items (Some c) xs ys h e = e ∙ (λ i. if h i then s ∷ ys else ys)

with_one_more : (xs ys : List Session) (y : Session) → IsSublist xs ys → IsSublist xs (y ∷ ys)
with_one_more [] ys y h = tt
with_one_more (x ∷ xs) ys y h = inr h

pub split_fits : (handed : List Session) (over : List ℕ) → IsSplit handed over → IsSplitByOverflow handed over
split_fits [] over is = record { refusers = []; numbers = is; among = tt; full = refl }
split_fits (s ∷ handed) over (b, rest, is, decides, others) = by (split_fits handed rest others) b is decides
  where
    by : (r : IsSplitByOverflow handed rest) (d : Bool) → over ≡ (if d then s.number ∷ rest else rest) → IfSome s.outbox.capacity (λ c. d ≡ nat_le c (length s.outbox.items)) → IsSplitByOverflow (s ∷ handed) over
    by r true e h = record {
      refusers = s ∷ r.refusers;
      numbers = e ∙ ap (λ ns. s.number ∷ ns) r.numbers;
      among = inl (refl, r.among);
      full = refuses_first s s.outbox.items s.outbox.capacity (filter has_capacity r.refusers) (filter is_full handed) h r.full;
    }
    by r false e h = record {
      refusers = r.refusers;
      numbers = e ∙ r.numbers;
      among = with_one_more r.refusers handed s r.among;
      full = takes_first s s.outbox.items s.outbox.capacity (filter has_capacity r.refusers) (filter is_full handed) h r.full;
    }

-- ---- and back

-- who is full has a capacity
full_has : (items : List Item) (o : Option ℕ) → is_filled items o ≡ true → is_some o ≡ true
full_has items None h = cc
full_has items (Some c) h = refl

decided : (items : List Item) (o : Option ℕ) (b : Bool) → is_filled items o ≡ b → IfSome o (λ c. b ≡ nat_le c (length items))
decided items None b h = tt
decided items (Some c) b h = sym h

undecided : (items : List Item) (o : Option ℕ) (b : Bool) → is_some o ≡ false → IfSome o (λ c. b ≡ nat_le c (length items))
undecided items None b h = tt
undecided items (Some c) b h = cc

full_first : (b : Bool) (x : Session) (xs : List Session) → is_full x ≡ b → filter is_full (x ∷ xs) ≡ (if b then x ∷ filter is_full xs else filter is_full xs)
full_first b x xs h = ap (λ (c : Bool). if c then x ∷ filter is_full xs else filter is_full xs) h

-- the full of those with a capacity are the full
full_with_capacity : (xs : List Session) → filter is_full (filter has_capacity xs) ≡ filter is_full xs
full_with_capacity [] = refl
full_with_capacity (x ∷ xs) = by (full_with_capacity xs) (is_full x) refl (has_capacity x) refl
  where
    by : filter is_full (filter has_capacity xs) ≡ filter is_full xs → (f : Bool) → is_full x ≡ f → (c : Bool) → has_capacity x ≡ c → filter is_full (filter has_capacity (x ∷ xs)) ≡ filter is_full (x ∷ xs)
    by ih f h true g =
        ap (λ (c : Bool). filter is_full (if c then x ∷ filter has_capacity xs else filter has_capacity xs)) g
        ∙ (λ i. if is_full x then x ∷ ih i else ih i)
    by ih true h false g = let no : true ≡ false = sym (full_has x.outbox.items x.outbox.capacity h) ∙ g in cc
    by ih false h false g =
        ap (λ (c : Bool). filter is_full (if c then x ∷ filter has_capacity xs else filter has_capacity xs)) g
        ∙ ih ∙ sym (full_first false x xs h)

full_twice : (xs : List Session) → filter is_full (filter is_full xs) ≡ filter is_full xs
full_twice [] = refl
full_twice (x ∷ xs) = by (full_twice xs) (is_full x) refl
  where
    by : filter is_full (filter is_full xs) ≡ filter is_full xs → (b : Bool) → is_full x ≡ b → filter is_full (filter is_full (x ∷ xs)) ≡ filter is_full (x ∷ xs)
    by ih true h =
        ap (λ (ys : List Session). filter is_full ys) (full_first true x xs h) ∙ full_first true x (filter is_full xs) h
        ∙ ap (λ ys. x ∷ ys) ih ∙ sym (full_first true x xs h)
    by ih false h = ap (λ (ys : List Session). filter is_full ys) (full_first false x xs h) ∙ ih ∙ sym (full_first false x xs h)

-- the first of the full is full
first_full : (xs ys : List Session) (x : Session) → x ∷ ys ≡ filter is_full xs → is_full x ≡ true
first_full [] ys x e = cc
first_full (z ∷ xs) ys x e = by (λ f. first_full xs ys x f) (is_full z) refl
  where
    by : (x ∷ ys ≡ filter is_full xs → is_full x ≡ true) → (b : Bool) → is_full z ≡ b → is_full x ≡ true
    by ih true h =
        let one : x ∷ ys ≡ z ∷ filter is_full xs = e ∙ full_first true z xs h in
        let same : x ≡ z = cc in
        ap is_full same ∙ h
    by ih false h = ih (e ∙ full_first false z xs h)

-- of some there are no more full than of all
fewer_full : (xs ys : List Session) → IsSublist xs ys → length (filter is_full xs) ≤ length (filter is_full ys)
fewer_full [] ys h = omega arith
fewer_full (x ∷ xs) [] h = absurd h
fewer_full (x ∷ xs) (y ∷ ys) (inl (same, h)) = subst (λ (z : Session). length (filter is_full (x ∷ xs)) ≤ length (filter is_full (z ∷ ys))) same (by (is_full x) (fewer_full xs ys h))
  where
    by : (b : Bool) → length (filter is_full xs) ≤ length (filter is_full ys) → length (if b then x ∷ filter is_full xs else filter is_full xs) ≤ length (if b then x ∷ filter is_full ys else filter is_full ys)
    by true k = omega (arith, k)
    by false k = k
fewer_full (x ∷ xs) (y ∷ ys) (inr h) = by (is_full y) (fewer_full (x ∷ xs) ys h)
  where
    by : (b : Bool) → length (filter is_full (x ∷ xs)) ≤ length (filter is_full ys) → length (filter is_full (x ∷ xs)) ≤ length (if b then y ∷ filter is_full ys else filter is_full ys)
    by true k = omega (arith, k)
    by false k = k

too_many : (k l : ℕ) → k ≡ suc l → k ≤ l → ⊥
too_many k l e h = omega (arith, e, h)

-- who is full is not passed over
not_passed : (s : Session) (handed rs : List Session) → IsSublist rs handed → filter has_capacity rs ≡ filter is_full (s ∷ handed) → is_full s ≡ true → ⊥
not_passed s handed rs among full h =
    too_many (length (filter is_full rs)) (length (filter is_full handed))
    (ap (λ (xs : List Session). length xs) (sym (full_with_capacity rs) ∙ ap (λ (xs : List Session). filter is_full xs) full ∙ full_twice (s ∷ handed) ∙ full_first true s handed h))
    (fewer_full rs handed among)

tail_is : {x y : Session} {xs ys : List Session} → (x ∷ xs) ≡ (y ∷ ys) → xs ≡ ys
tail_is e = cc

passed : (s : Session) (handed rs : List Session) (over : List ℕ) → over ≡ map (λ (s : Session). s.number) rs → IsSublist rs handed → filter has_capacity rs ≡ filter is_full (s ∷ handed)
    → ((over : List ℕ) → over ≡ map (λ (s : Session). s.number) rs → filter has_capacity rs ≡ filter is_full handed → IsSplit handed over) → IsSplit (s ∷ handed) over
passed s handed rs over is among full others = by (is_full s) refl
  where
    by : (b : Bool) → is_full s ≡ b → IsSplit (s ∷ handed) over
    by true h = absurd (not_passed s handed rs among full h)
    by false h = (false, over, refl, decided s.outbox.items s.outbox.capacity false h, others over is (full ∙ full_first false s handed h))

fits : (handed rs : List Session) (over : List ℕ) → over ≡ map (λ (s : Session). s.number) rs → IsSublist rs handed → filter has_capacity rs ≡ filter is_full handed → IsSplit handed over
fits [] [] over is among full = is
fits [] (r ∷ rs) over is among full = absurd among
fits (s ∷ handed) [] over is among full = passed s handed [] over is tt full (λ o e f. fits handed [] o e tt f)
fits (s ∷ handed) (r ∷ rs) over is (inr among) full = passed s handed (r ∷ rs) over is among full (λ o e f. fits handed (r ∷ rs) o e among f)
fits (s ∷ handed) (r ∷ rs) over is (inl (same, among)) full = by (λ e. fits handed rs (map (λ (x : Session). x.number) rs) refl among e) (is_full s) refl (has_capacity s) refl
  where
    here : (if has_capacity s then s ∷ filter has_capacity rs else filter has_capacity rs) ≡ filter is_full (s ∷ handed)
    here = (λ i. if has_capacity (sym same i) then sym same i ∷ filter has_capacity rs else filter has_capacity rs) ∙ full

    refuses : (filter has_capacity rs ≡ filter is_full handed → IsSplit handed (map (λ (x : Session). x.number) rs)) → IfSome s.outbox.capacity (λ c. true ≡ nat_le c (length s.outbox.items)) → filter has_capacity rs ≡ filter is_full handed → IsSplit (s ∷ handed) over
    refuses ih h e = (true, map (λ (x : Session). x.number) rs, is ∙ ap (λ (x : Session). x.number ∷ map (λ (y : Session). y.number) rs) same, h, ih e)

    capacity_is : (c : Bool) → has_capacity s ≡ c → (if c then s ∷ filter has_capacity rs else filter has_capacity rs) ≡ filter is_full (s ∷ handed)
    capacity_is c g = ap (λ (b : Bool). if b then s ∷ filter has_capacity rs else filter has_capacity rs) (sym g) ∙ here

    by : (filter has_capacity rs ≡ filter is_full handed → IsSplit handed (map (λ (x : Session). x.number) rs)) → (f : Bool) → is_full s ≡ f → (c : Bool) → has_capacity s ≡ c → IsSplit (s ∷ handed) over
    by ih true h true g = refuses ih (decided s.outbox.items s.outbox.capacity true h) (tail_is (capacity_is true g ∙ full_first true s handed h))
    by ih true h false g = let no : true ≡ false = sym (full_has s.outbox.items s.outbox.capacity h) ∙ g in cc
    by ih false h true g = let no : true ≡ false = sym (first_full (s ∷ handed) (filter has_capacity rs) s (capacity_is true g)) ∙ h in cc
    by ih false h false g = refuses ih (undecided s.outbox.items s.outbox.capacity true g) (capacity_is false g ∙ full_first false s handed h)

pub fits_split : (handed : List Session) (over : List ℕ) → IsSplitByOverflow handed over → IsSplit handed over
fits_split handed over h = fits handed h.refusers over h.numbers h.among h.full
