-- The answer by whom a request conflicts with, among who holds and among who waits.
use Rattle.std.proofs.Common.{◌≡◌, List, [], ◌∷◌, ◌++◌, Bool, true, false, ◌||◌, ◌&&◌, not, refl, sym, ap, ◌∙◌, Some, None}
use Rattle.std.proofs.lemmas.List.Folds.{list_any-append}
use Rattle.std.specs.Prelude.{if◌then◌else◌}
use Rattle.std.specs.List.{list_any}
use Rattle.tab_model.specs.Ages as plain
use Rattle.tab_model.specs.Ages.{Owned, opposes, covers_own, blocks, decide, before, can_retry}
use Rattle.tab_locks.specs.declared.lock_table.Conflict.{Conflict}
use Rattle.tab_locks.specs.declared.lock_table.Conflict.TheVariants.{Free, WithYounger, WithOlder}
use Rattle.tab_locks.specs.Placed.{conflict_with, standing, in_the_way}
use Rattle.tab_locks.proofs.Passing.{any_map}
use Rattle.tab_waitdie.specs.declared.waiting.Waiting.{Waiting}
use Rattle.tab_waitdie.specs.Queue.{owned, queued}
use Rattle.tab_waitdie.specs.Decisions.{ages, answer_of, answer_to}

module _ {X : Type 0} (p q : X → Bool) (f : (x : X) → p x ≡ true → q x ≡ true) where
  any_weaker : (xs : List X) → list_any p xs ≡ true → list_any q xs ≡ true
  any_weaker [] h = h
  any_weaker (x ∷ xs) h = by (p x) refl h (any_weaker xs)
    where
      or_true : (b : Bool) → (b || true) ≡ true
      or_true true = refl
      or_true false = refl

      by : (b : Bool) → p x ≡ b → (b || list_any p xs) ≡ true → (list_any p xs ≡ true → list_any q xs ≡ true) → (q x || list_any q xs) ≡ true
      by true e g ih = λ i. f x e i || list_any q xs
      by false e g ih = (λ i. q x || ih g i) ∙ or_true (q x)

and_first : (a b : Bool) → (a && b) ≡ true → a ≡ true
and_first true b h = refl
and_first false b h = h

older_opposes : (r : Owned) (xs : List Owned) → list_any (blocks r) xs ≡ true → list_any (opposes r) xs ≡ true
older_opposes r = any_weaker (blocks r) (opposes r) (λ x h. and_first (opposes r x) _ h)

by_whom : Bool → Bool → Conflict
by_whom o b = if o then (if b then WithOlder else WithYounger) else Free

by_tests : (o b o' b' : Bool) → (b ≡ true → o ≡ true) → (b' ≡ true → o' ≡ true) → answer_of (answer_to (by_whom o b) (by_whom o' b')) ≡ (if not (o || o') then plain.Granted else if (b || b') then plain.Die else plain.Wait)
unfolding by_whom
by_tests true true o' b' h h' = refl
by_tests true false true true h h' = refl
by_tests true false true false h h' = refl
by_tests true false false true h h' = let e = h' refl in absurd cc
by_tests true false false false h h' = refl
by_tests false true o' b' h h' = let e = h refl in absurd cc
by_tests false false true true h h' = refl
by_tests false false true false h h' = refl
by_tests false false false true h h' = let e = h' refl in absurd cc
by_tests false false false false h h' = refl

decided : (r : Owned) (held queue : List Owned) → list_any (covers_own r) held ≡ false → answer_of (answer_to (conflict_with r held) (conflict_with r queue)) ≡ decide (ages held queue) r
unfolding by_whom
decided r held queue n =
    by_tests (list_any (opposes r) held) (list_any (blocks r) held) (list_any (opposes r) queue) (list_any (blocks r) queue) (older_opposes r held) (older_opposes r queue)
    ∙ (λ i. if sym n i || not (sym (list_any-append (opposes r) held queue) i) then plain.Granted else if sym (list_any-append (blocks r) held queue) i then plain.Die else plain.Wait)

granted : (r : Owned) (held queue : List Owned) → list_any (covers_own r) held ≡ true → plain.Granted ≡ decide (ages held queue) r
granted r held queue h = λ i. if sym h i || not (list_any (opposes r) (held ++ queue)) then plain.Granted else if list_any (blocks r) (held ++ queue) then plain.Die else plain.Wait

-- the same by what the held locks tell at once
pub granted_where : (r : Owned) (held queue : List Owned) → None ≡ standing r held → plain.Granted ≡ decide (ages held queue) r
granted_where r held queue h = by (list_any (covers_own r) held) refl h
  where
    by : (b : Bool) → list_any (covers_own r) held ≡ b → None ≡ (if b then None else Some (conflict_with r held)) → plain.Granted ≡ decide (ages held queue) r
    by true e h = granted r held queue e
    by false e h = absurd cc

pub decided_where : (o : Conflict) (r : Owned) (held queue : List Owned) → Some o ≡ standing r held → answer_of (answer_to o (conflict_with r queue)) ≡ decide (ages held queue) r
decided_where o r held queue h = by (list_any (covers_own r) held) refl h
  where
    by : (b : Bool) → list_any (covers_own r) held ≡ b → Some o ≡ (if b then None else Some (conflict_with r held)) → answer_of (answer_to o (conflict_with r queue)) ≡ decide (ages held queue) r
    by true e h = absurd cc
    by false e h = let is : o ≡ conflict_with r held = cc in ap (λ x. answer_of (answer_to x (conflict_with r queue))) is ∙ decided r held queue e

-- the same where no queued request opposes, by what was answered to who asked for the lock
unopposed_by : (r : Owned) (held queue : List Owned) → list_any (opposes r) queue ≡ false → Free ≡ conflict_with r queue
unfolding by_whom
unopposed_by r held queue h = λ i. by_whom (sym h i) (list_any (blocks r) queue)

pub granted_free : (r : Owned) (held queue : List Owned) → list_any (opposes r) queue ≡ false → None ≡ in_the_way r held → plain.Granted ≡ decide (ages held queue) r
granted_free r held queue none h = by (list_any (covers_own r) held) (list_any (opposes r) held) refl refl h
  where
    by : (b o : Bool) → list_any (covers_own r) held ≡ b → list_any (opposes r) held ≡ o → None ≡ (if b || not o then None else Some (conflict_with r held)) → plain.Granted ≡ decide (ages held queue) r
    by true o e f g = granted r held queue e
    by false true e f g = absurd cc
    by false false e f g =
        λ i. if sym e i || not (sym (list_any-append (opposes r) held queue ∙ (λ j. f j || none j)) i) then plain.Granted else if list_any (blocks r) (held ++ queue) then plain.Die else plain.Wait

pub decided_free : (o : Conflict) (r : Owned) (held queue : List Owned) → list_any (opposes r) queue ≡ false → Some o ≡ in_the_way r held → answer_of (answer_to o Free) ≡ decide (ages held queue) r
decided_free o r held queue none h = by (list_any (covers_own r) held) (list_any (opposes r) held) refl refl h
  where
    by : (b p : Bool) → list_any (covers_own r) held ≡ b → list_any (opposes r) held ≡ p → Some o ≡ (if b || not p then None else Some (conflict_with r held)) → answer_of (answer_to o Free) ≡ decide (ages held queue) r
    by true p e f g = absurd cc
    by false false e f g = absurd cc
    by false true e f g =
        let is : o ≡ conflict_with r held = cc in
        (λ i. answer_of (answer_to (is i) (unopposed_by r held queue none i))) ∙ decided r held queue e

pub any_queued : (p : Owned → Bool) (ws : List Waiting) → list_any p (queued ws) ≡ list_any (λ w. p (owned w)) ws
any_queued p ws = any_map p owned ws

-- what a conflict tells of who opposes
free_is : (o b : Bool) → Free ≡ by_whom o b → o ≡ false
unfolding by_whom
free_is true true h = absurd cc
free_is true false h = absurd cc
free_is false b h = refl

younger_is : (o b : Bool) → WithYounger ≡ by_whom o b → o ≡ true
unfolding by_whom
younger_is true b h = refl
younger_is false b h = absurd cc

older_is : (o b : Bool) → WithOlder ≡ by_whom o b → o ≡ true
unfolding by_whom
older_is true b h = refl
older_is false b h = absurd cc

module _ (r : Owned) (held earlier : List Owned) where
  pub free_where : Free ≡ conflict_with r held → not (list_any (opposes r) earlier) ≡ not (list_any (opposes r) (held ++ earlier))
  unfolding by_whom
  free_where h = (λ i. not (sym (free_is (list_any (opposes r) held) (list_any (blocks r) held) h) i || list_any (opposes r) earlier)) ∙ ap not (sym (list_any-append (opposes r) held earlier))

  pub not_free : list_any (opposes r) held ≡ true → false ≡ not (list_any (opposes r) (held ++ earlier))
  not_free h = (λ i. not (sym h i || list_any (opposes r) earlier)) ∙ ap not (sym (list_any-append (opposes r) held earlier))

  pub not_free_younger : WithYounger ≡ conflict_with r held → false ≡ not (list_any (opposes r) (held ++ earlier))
  unfolding by_whom
  not_free_younger h = not_free (younger_is (list_any (opposes r) held) (list_any (blocks r) held) h)

  pub not_free_older : WithOlder ≡ conflict_with r held → false ≡ not (list_any (opposes r) (held ++ earlier))
  unfolding by_whom
  not_free_older h = not_free (older_is (list_any (opposes r) held) (list_any (blocks r) held) h)
