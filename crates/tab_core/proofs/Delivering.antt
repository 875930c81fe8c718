-- Items that are due, delivered: what every session then watches, and what its post then shows.
use Rattle.std.proofs.Common.{◌≡◌, ℕ, List, [], ◌∷◌, Bool, true, false, not, refl, sym, ap, ◌∙◌, subst, append-nil, Option, Some, None}
use Rattle.std.specs.Prelude.{◌==◌, if◌then◌else◌, map}
use Rattle.std.specs.List.{filter}
use Rattle.tab_model.specs.declared.data.Item.{Item}
use Rattle.tab_model.specs.Log.{has_session}
use Rattle.tab_model.specs.State.{Watch, Session, session_at, without_watch}
use Rattle.tab_model.specs.Outcome.{is_empty, with_items, with_changed, with_transaction, after_overflow, after_put, without_deleted}
use Rattle.tab_model.specs.Run.{IsSplitByOverflow}
use Rattle.tab_model.proofs.Splits.{IsSplit, split_fits}
use Rattle.tab_subs.specs.Subscribers as subs
use Rattle.tab_subs.specs.Subscribers.{given, overflowed}
use Rattle.tab_core.specs.Joined.{Subscriber}
use Rattle.tab_subs.specs.Deliveries.{first_of, rest_of, unwatched, given_all, IsDecided, AreDecided, joined_if, those_in}
use Rattle.tab_core.specs.Parts.{session_of}
use Rattle.tab_core.proofs.Keeping.{SameKeys}

-- ---- who is given what keeps its number and its transaction

given_keys : (n : ℕ) (over : List ℕ) (items : List Item) (t : Option (List ℕ)) (s : Subscriber)
    → (s.number ≡ (given n over items (unwatched t s)).number) × (s.transaction ≡ (given n over items (unwatched t s)).transaction)
given_keys n over items t s = at_table t
  where
    at_table : (u : Option (List ℕ)) → (s.number ≡ (given n over items (unwatched u s)).number) × (s.transaction ≡ (given n over items (unwatched u s)).transaction)
    at_table None = by (has_session over s.number)
      where
        by : (d : Bool) → (s.number ≡ subs.Subscriber.number (if d then overflowed n s else record s { outbox = with_items s.outbox items }))
            × (s.transaction ≡ subs.Subscriber.transaction (if d then overflowed n s else record s { outbox = with_items s.outbox items }))
        by true = (refl, refl)
        by false = (refl, refl)
    at_table (Some v) = by (has_session over s.number)
      where
        by : (d : Bool) → (s.number ≡ subs.Subscriber.number (if d then overflowed n (unwatched (Some v) s) else record s { watching = without_watch s.watching v; outbox = with_items s.outbox items }))
            × (s.transaction ≡ subs.Subscriber.transaction (if d then overflowed n (unwatched (Some v) s) else record s { watching = without_watch s.watching v; outbox = with_items s.outbox items }))
        by true = (refl, refl)
        by false = (refl, refl)

pub keys_given : (n : ℕ) (over : List ℕ) (t : Option (List ℕ)) (items : List (List Item)) (ss : List Subscriber) → SameKeys ss (given_all n over t items ss)
keys_given n over t items [] = tt
keys_given n over t items (s ∷ ss) =
    let k = given_keys n over (first_of items) t s in
    (k.0, k.1, keys_given n over t (rest_of items) ss)

-- ---- nothing is due

abbrev pub no_items : List Subscriber → List (List Item)
no_items ss = map (λ (s : Subscriber). []) ss

given_nothing : (s : Subscriber) → given 0 [] [] s ≡ s
given_nothing s = λ i. record s { outbox = record s.outbox { items = append-nil s.outbox.items i } }

pub none_given : (n : ℕ) (ss : List Subscriber) → given_all n [] None (no_items ss) ss ≡ ss
none_given n [] = refl
none_given n (s ∷ ss) = λ i. given_nothing s i ∷ none_given n ss i

pub none_decided : (ss : List Subscriber) → AreDecided [] (no_items ss) ss
none_decided [] = tt
none_decided (s ∷ ss) = (refl, none_decided ss)

pub none_over : (ss : List Subscriber) → [] ≡ those_in [] ss
none_over [] = refl
none_over (s ∷ ss) = none_over ss

-- ---- what all sessions are given, by what each watches

module _ (n : ℕ) (over : List ℕ) (t : Option (List ℕ)) (h : List Watch → List Item) where
  abbrev pub after : List Subscriber → List Subscriber
  after ss = given_all n over t (map (λ (s : Subscriber). h s.watching) ss) ss

  session_after : (s : Subscriber) → after_put n over (h s.watching) (without_deleted t (session_of s)) ≡ session_of (given n over (h s.watching) (unwatched t s))
  session_after s = at_table t
    where
      at_table : (u : Option (List ℕ)) → after_put n over (h s.watching) (without_deleted u (session_of s)) ≡ session_of (given n over (h s.watching) (unwatched u s))
      at_table None = by (has_session over s.number)
        where
          by : (d : Bool) → (if d then after_overflow n (session_of s) else record (session_of s) { outbox = with_items s.outbox (h s.watching) })
              ≡ session_of (if d then overflowed n s else record s { outbox = with_items s.outbox (h s.watching) })
          by true = refl
          by false = refl
      at_table (Some v) = by (has_session over s.number)
        where
          by : (d : Bool) → (if d then after_overflow n (without_deleted (Some v) (session_of s)) else record (session_of s) { watching = without_watch s.watching v; outbox = with_items s.outbox (h s.watching) })
              ≡ session_of (if d then overflowed n (unwatched (Some v) s) else record s { watching = without_watch s.watching v; outbox = with_items s.outbox (h s.watching) })
          by true = refl
          by false = refl

  pub sessions_after : (ss : List Subscriber) → map (λ (x : Session). after_put n over (h x.watching) (without_deleted t x)) (map session_of ss) ≡ map session_of (after ss)
  sessions_after [] = refl
  sessions_after (s ∷ ss) = λ i. session_after s i ∷ sessions_after ss i

-- ---- who overflows

module _ (h : List Watch → List Item) where
  abbrev pub owing : Session → Bool
  owing x = not (is_empty (h x.watching))

  pins : (all : List ℕ) (ss : List Subscriber) → AreDecided all (map (λ (s : Subscriber). h s.watching) ss) ss → IsSplit (filter owing (map session_of ss)) (those_in all ss)
  pins all [] d = refl
  pins all (s ∷ ss) d = by (h s.watching) d.0 (pins all ss d.1)
    where
      by : (items : List Item) → IsDecided (has_session all s.number) items s.outbox → IsSplit (filter owing (map session_of ss)) (those_in all ss)
          → IsSplit (if not (is_empty items) then session_of s ∷ filter owing (map session_of ss) else filter owing (map session_of ss)) (joined_if (has_session all s.number) s.number (those_in all ss))
      by [] e rest = subst (λ b. IsSplit (filter owing (map session_of ss)) (joined_if b s.number (those_in all ss))) (sym e) rest
      by (i ∷ is) e rest = (has_session all s.number, those_in all ss, list_is (has_session all s.number), e, rest)
        where
          list_is : (b : Bool) → joined_if b s.number (those_in all ss) ≡ (if b then s.number ∷ those_in all ss else those_in all ss)
          list_is true = refl
          list_is false = refl

  -- those who overflowed are those whose posts refused, and no other could
  pub are_pinned : (over : List ℕ) (ss : List Subscriber) → over ≡ those_in over ss → AreDecided over (map (λ (s : Subscriber). h s.watching) ss) ss → IsSplitByOverflow (filter owing (map session_of ss)) over
  are_pinned over ss is decided = split_fits (filter owing (map session_of ss)) over (subst (IsSplit (filter owing (map session_of ss))) (sym is) (pins over ss decided))

-- ---- a session's transaction has no part in it

abbrev bare : Subscriber → Subscriber
bare s = record s { transaction = None }

abbrev back : Session → Subscriber
back x = record { number = x.number; transaction = None; watching = x.watching; outbox = x.outbox; overflow = x.overflow }

back_bare : (ss : List Subscriber) → map back (map session_of ss) ≡ map bare ss
back_bare [] = refl
back_bare (s ∷ ss) = ap (λ ys. bare s ∷ ys) (back_bare ss)

some_is : {x y : Session} → Some x ≡ Some y → x ≡ y
some_is e = cc

back_ended : (xs : List Session) (s : Session) → session_at xs s.number ≡ Some s → map back (with_changed xs (with_transaction s None)) ≡ map back xs
back_ended [] s e = refl
back_ended (x ∷ xs) s e = by (x.number == s.number) e (back_ended xs s)
  where
    by : (d : Bool) → (if d then Some x else session_at xs s.number) ≡ Some s → (session_at xs s.number ≡ Some s → map back (with_changed xs (with_transaction s None)) ≡ map back xs)
        → map back (if d then with_transaction s None ∷ xs else x ∷ with_changed xs (with_transaction s None)) ≡ back x ∷ map back xs
    by true g ih = ap (λ (y : Session). back y ∷ map back xs) (sym (some_is g))
    by false g ih = ap (λ ys. back x ∷ ys) (ih g)

-- the same sessions, but for their transactions
abbrev pub SamePosts : List Subscriber → List Subscriber → Type 0
SamePosts xs ys = map bare xs ≡ map bare ys

pub same_ended : (ss ss' : List Subscriber) (s : Session) → session_at (map session_of ss) s.number ≡ Some s → map session_of ss' ≡ with_changed (map session_of ss) (with_transaction s None) → SamePosts ss' ss
same_ended ss ss' s here is = sym (back_bare ss') ∙ ap (map back) is ∙ back_ended (map session_of ss) s here ∙ back_bare ss

items_bare : (h : List Watch → List Item) (ss : List Subscriber) → map (λ (s : Subscriber). h s.watching) ss ≡ map (λ (s : Subscriber). h s.watching) (map bare ss)
items_bare h [] = refl
items_bare h (s ∷ ss) = ap (λ ys. h s.watching ∷ ys) (items_bare h ss)

those_bare : (over : List ℕ) (ss : List Subscriber) → those_in over ss ≡ those_in over (map bare ss)
those_bare over [] = refl
those_bare over (s ∷ ss) = ap (joined_if (has_session over s.number) s.number) (those_bare over ss)

decided_bare : (over : List ℕ) (items : List (List Item)) (ss : List Subscriber) → AreDecided over items ss → AreDecided over items (map bare ss)
decided_bare over items [] d = tt
decided_bare over items (s ∷ ss) d = (d.0, decided_bare over (rest_of items) ss d.1)

bare_decided : (over : List ℕ) (items : List (List Item)) (ss : List Subscriber) → AreDecided over items (map bare ss) → AreDecided over items ss
bare_decided over items [] d = tt
bare_decided over items (s ∷ ss) d = (d.0, bare_decided over (rest_of items) ss d.1)

pub same_items : (h : List Watch → List Item) (xs ys : List Subscriber) → SamePosts xs ys → map (λ (s : Subscriber). h s.watching) xs ≡ map (λ (s : Subscriber). h s.watching) ys
same_items h xs ys e = items_bare h xs ∙ ap (map (λ (s : Subscriber). h s.watching)) e ∙ sym (items_bare h ys)

pub same_those : (over : List ℕ) (xs ys : List Subscriber) → SamePosts xs ys → those_in over xs ≡ those_in over ys
same_those over xs ys e = those_bare over xs ∙ ap (those_in over) e ∙ sym (those_bare over ys)

pub same_decided : (over : List ℕ) (items : List (List Item)) (xs ys : List Subscriber) → SamePosts xs ys → AreDecided over items xs → AreDecided over items ys
same_decided over items xs ys e d = bare_decided over items ys (subst (AreDecided over items) e (decided_bare over items xs d))
