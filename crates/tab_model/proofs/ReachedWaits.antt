-- Ages rise along every wait of a reached state.
use Rattle.std.proofs.Common.{◌≡◌, ℕ, ◌+◌, ◌<◌, List, [], ◌∷◌, ◌++◌, Bool, true, false, ◌&&◌, ◌||◌, not, refl, sym, ap, ◌∙◌, subst, arith, Option, Some, None}
use Rattle.std.proofs.Math.Bool.{and-true}
use Rattle.std.specs.Prelude.{◌==◌, if◌then◌else◌, map}
use Rattle.std.specs.List.{list_any}
use Rattle.std.proofs.lemmas.Bool.Decides.{nat_tests}
use Rattle.std.proofs.lemmas.Bool.{or_parts}
use Rattle.std.proofs.lemmas.List.Folds.{list_any-append}
use Rattle.tab_term.specs.declared.term.Term.{Term}
use Rattle.tab_model.specs.declared.data.Operation.{Operation}
use Rattle.tab_model.specs.declared.data.Move.{Move}
use Rattle.tab_model.specs.declared.data.Move.TheVariants.{Do, Open, Close, Undo}
use Rattle.tab_model.specs.declared.data.Reply.{Reply}
use Rattle.tab_model.specs.declared.data.Reply.TheVariants as reply
use Rattle.tab_model.specs.declared.data.Limits.{Limits}
use Rattle.tab_model.specs.declared.data.Item.{Item}
use Rattle.tab_model.specs.declared.data.Level.{Level}
use Rattle.tab_model.specs.declared.data.Entry.{Entry}
use Rattle.tab_model.specs.declared.data.Schema.{Schema}
use Rattle.tab_model.specs.declared.data.Command.{Command}
use Rattle.tab_model.specs.declared.data.Command.TheVariants as command
use Rattle.tab_model.specs.Locks.{Lock, needs, locks_of}
use Rattle.tab_model.specs.Ages.{Owned, Answer, Granted, Wait, Die, blocks, decide, can_retry, request_of, without, after_request, after_retry, RisesAfter, Rises, Chain, last_of}
use Rattle.tab_model.specs.Schemas.{removed_table}
use Rattle.tab_model.specs.State.{Transaction, Outbox, Watch, Session, Queued, State, new, session_at, transaction_in, transaction_at, request_in, without_request, is_waiting, with_age, locks_held_by, locks_held_in, locks_queued_in, ages_of, OwnedBy, HasAge, IsSound}
use Rattle.tab_model.specs.Reached.{IsRising}
use Rattle.tab_model.specs.declared.ask.Ask.TheVariants.{Join, Leave, Retry, Take, Do as DoCommand}
use Rattle.tab_model.specs.Outcome.{Ask, outcome, with_transaction, with_queue, with_changed, without_session, make, begun_anew, by_lock_answer, operate, retry_in, retry, begin, one_shot, abort, after_put, batch_to, end_to, without_deleted, commit, events_now, schema, put_marker, is_abort, do_command, give, leave, step_of_joined, fresh, step_of_stranger, step_of}
use Rattle.tab_model.proofs.StepCases.{after_move, within_limit, try_again, open_level_1, open_child, commit_at, schema_if, subscribe_if, unsubscribe_if, command_if, join_if}
use Rattle.tab_model.specs.Run.{Call, outcome_of, after_all}
use Rattle.tab_model.proofs.SessionLists.{eq_true, found, session_at-push, session_at-without}
use Rattle.tab_model.proofs.StepsBySession.{lock_of_move, locks-more, held_none}
use Rattle.tab_model.proofs.SoundSteps.{given_same, unwatched_same, step_sound}
use Rattle.tab_model.proofs.Schedules.{new_sound}
use Rattle.tab_model.proofs.RefusalLaws.{none_queued}
use Rattle.tab_model.proofs.CallersLemmas.{same_if, transaction_if, changed_transactions, mapped_transaction}
use Rattle.tab_model.proofs.WaitsHaveNoCycle.{request_rises, retry_rises, chain_rises}

-- what no lock of the one list passes, none of the other does
abbrev Fewer : List Owned → List Owned → Type 0
Fewer xs ys = (p : Owned → Bool) → list_any p xs ≡ false → list_any p ys ≡ false

fewer_front : (xs ys zs : List Owned) → Fewer xs ys → Fewer (xs ++ zs) ys
fewer_front xs ys zs f p h = f p (or_parts (list_any p xs) (list_any p zs) (sym (list_any-append p xs zs) ∙ h)).0

fewer_both : (xs ys zs : List Owned) → Fewer xs ys → Fewer (xs ++ zs) (ys ++ zs)
fewer_both xs ys zs f p h = let q = or_parts (list_any p xs) (list_any p zs) (sym (list_any-append p xs zs) ∙ h) in list_any-append p ys zs ∙ (λ i. f p q.0 i || q.1 i)

fewer_held : (held held' earlier queue : List Owned) → Fewer held held' → RisesAfter held earlier queue → RisesAfter held' earlier queue
fewer_held held held' earlier [] f h = tt
fewer_held held held' earlier (x ∷ queue) f h = (f (blocks x) h.0, h.1, fewer_held held held' (earlier ++ x ∷ []) queue f h.2)

-- a session's requests go
fewer_queue : (n : ℕ) (held earlier earlier' : List Owned) (qs : List Queued) → Fewer earlier earlier' → RisesAfter held earlier (locks_queued_in qs) → RisesAfter held earlier' (locks_queued_in (without_request qs n))
fewer_queue n held earlier earlier' [] f h = tt
fewer_queue n held earlier earlier' (q ∷ qs) f h = cases (q.session == n)
    (fewer_queue n held (earlier ++ x ∷ []) earlier' qs (fewer_front earlier earlier' (x ∷ []) f) h.2)
    (fewer_queue n held (earlier ++ x ∷ []) (earlier' ++ x ∷ []) qs (fewer_both earlier earlier' (x ∷ []) f) h.2)
  where
    x : Owned
    x = (q.age, needs q.operation)

    cases : (b : Bool) → RisesAfter held earlier' (locks_queued_in (without_request qs n)) → RisesAfter held (earlier' ++ x ∷ []) (locks_queued_in (without_request qs n)) → RisesAfter held earlier' (locks_queued_in (if not b then q ∷ without_request qs n else without_request qs n))
    cases true g k = g
    cases false g k = (h.0, f (blocks x) h.1, k)

pub queued_in-push : (qs : List Queued) (q : Queued) → locks_queued_in (qs ++ q ∷ []) ≡ locks_queued_in qs ++ (q.age, needs q.operation) ∷ []
queued_in-push [] q = refl
queued_in-push (p ∷ qs) q = ap (λ xs. (p.age, needs p.operation) ∷ xs) (queued_in-push qs q)

-- ---- whose requests are queued

pub owned_same : (f g : ℕ → Option Transaction) (qs : List Queued) → ((m : ℕ) → g m ≡ f m) → OwnedBy f qs → OwnedBy g qs
owned_same f g [] h o = tt
owned_same f g (q ∷ qs) h o = (subst (λ (t : Option Transaction). HasAge t q.age) (sym (h q.session)) o.0, owned_same f g qs h o.1)

pub owned_without : (f g : ℕ → Option Transaction) (n : ℕ) (qs : List Queued) → ((m : ℕ) → (m == n) ≡ false → g m ≡ f m) → OwnedBy f qs → OwnedBy g (without_request qs n)
owned_without f g n [] h o = tt
owned_without f g n (q ∷ qs) h o = cases (q.session == n) refl (owned_without f g n qs h o.1)
  where
    cases : (b : Bool) → (q.session == n) ≡ b → OwnedBy g (without_request qs n) → OwnedBy g (if not b then q ∷ without_request qs n else without_request qs n)
    cases true e ih = ih
    cases false e ih = (subst (λ (t : Option Transaction). HasAge t q.age) (sym (h q.session e)) o.0, ih)

pub owned_push : (f : ℕ → Option Transaction) (qs : List Queued) (q : Queued) → OwnedBy f qs → HasAge (f q.session) q.age → OwnedBy f (qs ++ q ∷ [])
owned_push f [] q o h = (h, tt)
owned_push f (p ∷ qs) q o h = (o.0, owned_push f qs q o.1 h)

-- a session's requests are those of its age
abbrev pub Match : ℕ → ℕ → List Queued → Type 0
Match n a [] = Unit {0}
Match n a (q ∷ qs) = ((q.session == n) ≡ (q.age == a)) × Match n a qs

pub without_match : (n a : ℕ) (qs : List Queued) → Match n a qs → locks_queued_in (without_request qs n) ≡ without a (locks_queued_in qs)
without_match n a [] m = refl
without_match n a (q ∷ qs) m = ap (λ b. locks_queued_in (if not b then q ∷ without_request qs n else without_request qs n)) m.0 ∙ cases (q.age == a) (without_match n a qs m.1)
  where
    cases : (b : Bool) → locks_queued_in (without_request qs n) ≡ without a (locks_queued_in qs) → locks_queued_in (if not b then q ∷ without_request qs n else without_request qs n) ≡ (if not b then (q.age, needs q.operation) ∷ without a (locks_queued_in qs) else without a (locks_queued_in qs))
    cases true ih = ih
    cases false ih = ap (λ xs. (q.age, needs q.operation) ∷ xs) ih

pub request_match : (n a : ℕ) (qs : List Queued) (q : Queued) → Match n a qs → request_in qs n ≡ Some q → request_of a (locks_queued_in qs) ≡ Some (q.age, needs q.operation)
request_match n a [] q m e = cc
request_match n a (p ∷ qs) q m e = cases (p.age == a) (ap (λ b. if b then Some p else request_in qs n) (sym m.0) ∙ e) (request_match n a qs q m.1)
  where
    cases : (b : Bool) → (if b then Some p else request_in qs n) ≡ Some q → (request_in qs n ≡ Some q → request_of a (locks_queued_in qs) ≡ Some (q.age, needs q.operation)) → (if b then Some (p.age, needs p.operation) else request_of a (locks_queued_in qs)) ≡ Some (q.age, needs q.operation)
    cases true g ih = let same : p ≡ q = cc in ap (λ (z : Queued). Some (z.age, needs z.operation)) same
    cases false g ih = ih g

pub request_age : (f : ℕ → Option Transaction) (n : ℕ) (qs : List Queued) (q : Queued) → OwnedBy f qs → request_in qs n ≡ Some q → HasAge (f n) q.age
request_age f n [] q o e = cc
request_age f n (p ∷ qs) q o e = cases (p.session == n) refl e (request_age f n qs q o.1)
  where
    cases : (b : Bool) → (p.session == n) ≡ b → (if b then Some p else request_in qs n) ≡ Some q → (request_in qs n ≡ Some q → HasAge (f n) q.age) → HasAge (f n) q.age
    cases true h g ih = let same : p ≡ q = cc in subst (λ (z : Queued). HasAge (f n) z.age) same (subst (λ (m : ℕ). HasAge (f m) p.age) (eq_true p.session n h) o.0)
    cases false h g ih = ih g

pub match_of : (σ : State) (n : ℕ) (t : Transaction) (qs : List Queued) → IsSound σ → transaction_at σ n ≡ Some t → OwnedBy (transaction_at σ) qs → Match n t.age qs
match_of σ n t [] sound mine o = tt
match_of σ n t (q ∷ qs) sound mine o = (one (q.session == n) refl (q.age == t.age) refl, match_of σ n t qs sound mine o.1)
  where
    one : (a : Bool) → (q.session == n) ≡ a → (b : Bool) → (q.age == t.age) ≡ b → a ≡ b
    one true e true f = refl
    one false e false f = refl
    one true e false f = let same : t.age ≡ q.age = subst (λ (x : Option Transaction). HasAge x q.age) (ap (transaction_at σ) (eq_true q.session n e) ∙ mine) o.0 in absurd (differ same f)
      where
        differ : t.age ≡ q.age → (q.age == t.age) ≡ false → ⊥
        differ g h = grind (arith, nat_tests)
    one false e true f = absurd (other (transaction_at σ q.session) refl o.0)
      where
        apart : q.session ≡ n → (q.session == n) ≡ false → ⊥
        apart g h = grind (arith, nat_tests)

        other : (x : Option Transaction) → transaction_at σ q.session ≡ x → HasAge x q.age → ⊥
        other None h g = g
        other (Some u) h g = apart (sound.ages q.session n u t h mine (g ∙ eq_true q.age t.age f)) e

-- ---- the locks of sessions

held_changed : (p : Owned → Bool) (sessions : List Session) (x : Session) → list_any p (locks_held_in sessions) ≡ false → list_any p (locks_held_by x.transaction) ≡ false → list_any p (locks_held_in (with_changed sessions x)) ≡ false
held_changed p [] x h g = refl
held_changed p (y ∷ sessions) x h g =
    let q = or_parts (list_any p (locks_held_by y.transaction)) (list_any p (locks_held_in sessions)) (sym (list_any-append p (locks_held_by y.transaction) (locks_held_in sessions)) ∙ h) in
    cases (y.number == x.number) q.0 q.1 (held_changed p sessions x q.1 g)
  where
    cases : (b : Bool) → list_any p (locks_held_by y.transaction) ≡ false → list_any p (locks_held_in sessions) ≡ false → list_any p (locks_held_in (with_changed sessions x)) ≡ false → list_any p (locks_held_in (if b then x ∷ sessions else y ∷ with_changed sessions x)) ≡ false
    cases true a b ih = list_any-append p (locks_held_by x.transaction) (locks_held_in sessions) ∙ (λ i. g i || b i)
    cases false a b ih = list_any-append p (locks_held_by y.transaction) (locks_held_in (with_changed sessions x)) ∙ (λ i. a i || ih i)

held_without : (p : Owned → Bool) (sessions : List Session) (n : ℕ) → list_any p (locks_held_in sessions) ≡ false → list_any p (locks_held_in (without_session sessions n)) ≡ false
held_without p [] n h = refl
held_without p (y ∷ sessions) n h =
    let q = or_parts (list_any p (locks_held_by y.transaction)) (list_any p (locks_held_in sessions)) (sym (list_any-append p (locks_held_by y.transaction) (locks_held_in sessions)) ∙ h) in
    cases (y.number == n) q.0 (held_without p sessions n q.1)
  where
    cases : (b : Bool) → list_any p (locks_held_by y.transaction) ≡ false → list_any p (locks_held_in (without_session sessions n)) ≡ false → list_any p (locks_held_in (if not b then y ∷ without_session sessions n else without_session sessions n)) ≡ false
    cases true a ih = ih
    cases false a ih = list_any-append p (locks_held_by y.transaction) (locks_held_in (without_session sessions n)) ∙ (λ i. a i || ih i)

pub held_pushed : (n : ℕ) (b : Outbox) (sessions : List Session) → locks_held_in (sessions ++ fresh n b ∷ []) ≡ locks_held_in sessions
held_pushed n b [] = refl
held_pushed n b (y ∷ sessions) = ap (λ xs. locks_held_by y.transaction ++ xs) (held_pushed n b sessions)

pub held_mapped : (f : Session → Session) → ((x : Session) → (f x).transaction ≡ x.transaction) → (sessions : List Session) → locks_held_in (map f sessions) ≡ locks_held_in sessions
held_mapped f h [] = refl
held_mapped f h (y ∷ sessions) = λ i. locks_held_by (h y i) ++ held_mapped f h sessions i

pub aged_append : (a : ℕ) (xs ys : List Lock) → with_age a (xs ++ ys) ≡ with_age a xs ++ with_age a ys
aged_append a [] ys = refl
aged_append a (x ∷ xs) ys = ap (λ zs. (a, x) ∷ zs) (aged_append a xs ys)

moved_held : (p : Owned → Bool) (t : Transaction) (x : Move) (r : Option Reply) (b : Bool) → list_any p (locks_held_by (Some t)) ≡ false → list_any p (with_age t.age (lock_of_move x)) ≡ false → list_any p (locks_held_by (after_move t x r b)) ≡ false
moved_held p t x r true h g = refl
moved_held p t x r false h g =
    ap (λ ls. list_any p (with_age t.age ls)) (locks-more t.moves x) ∙ ap (list_any p) (aged_append t.age (locks_of t.moves) (lock_of_move x))
    ∙ list_any-append p (with_age t.age (locks_of t.moves)) (with_age t.age (lock_of_move x)) ∙ (λ i. h i || g i)

-- ---- steps

same_rising : (σ τ : State) → IsRising σ → τ.queue ≡ σ.queue → ((m : ℕ) → transaction_at τ m ≡ transaction_at σ m) → Fewer (locks_held_in σ.sessions) (locks_held_in τ.sessions) → IsRising τ
same_rising σ τ rise q h f = record {
  rises = subst (λ (qs : List Queued). RisesAfter (locks_held_in τ.sessions) [] (locks_queued_in qs)) (sym q) (fewer_held (locks_held_in σ.sessions) (locks_held_in τ.sessions) [] (locks_queued_in σ.queue) f rise.rises);
  owners = subst (λ (qs : List Queued). OwnedBy (transaction_at τ) qs) (sym q) (owned_same (transaction_at σ) (transaction_at τ) σ.queue h rise.owners);
}

-- one session's requests are gone, and all others' transactions stay
gone_rising : (σ τ : State) (n : ℕ) → IsRising σ → τ.queue ≡ without_request σ.queue n → ((m : ℕ) → (m == n) ≡ false → transaction_at τ m ≡ transaction_at σ m) → RisesAfter (locks_held_in τ.sessions) [] (locks_queued_in (without_request σ.queue n)) → IsRising τ
gone_rising σ τ n rise q h r = record {
  rises = subst (λ (qs : List Queued). RisesAfter (locks_held_in τ.sessions) [] (locks_queued_in qs)) (sym q) r;
  owners = subst (λ (qs : List Queued). OwnedBy (transaction_at τ) qs) (sym q) (owned_without (transaction_at σ) (transaction_at τ) n σ.queue h rise.owners);
}

dropped_rises : (σ τ : State) (n : ℕ) → IsRising σ → Fewer (locks_held_in σ.sessions) (locks_held_in τ.sessions) → RisesAfter (locks_held_in τ.sessions) [] (locks_queued_in (without_request σ.queue n))
dropped_rises σ τ n rise f = fewer_held (locks_held_in σ.sessions) (locks_held_in τ.sessions) [] (locks_queued_in (without_request σ.queue n)) f (fewer_queue n (locks_held_in σ.sessions) [] [] σ.queue (λ p h. h) rise.rises)

module _ (σ : State) (sound : IsSound σ) (rise : IsRising σ) where
  module _ (s : Session) (here : session_at σ.sessions s.number ≡ Some s) where
    mine : transaction_at σ s.number ≡ s.transaction
    mine = ap transaction_in here

    own_held : (p : Owned → Bool) (t : Transaction) → s.transaction ≡ Some t → list_any p (locks_held_in σ.sessions) ≡ false → list_any p (locks_held_by (Some t)) ≡ false
    own_held p t e h = ap (λ (o : Option Transaction). list_any p (locks_held_by o)) (sym (mine ∙ e)) ∙ held_none p σ.sessions s.number h

    changed_others : (o : Option Transaction) (m : ℕ) → (m == s.number) ≡ false → transaction_in (session_at (with_changed σ.sessions (with_transaction s o)) m) ≡ transaction_at σ m
    changed_others o m e = changed_transactions σ.sessions s (with_transaction s o) s.number here refl m ∙ ap (λ (b : Bool). if b then o else transaction_at σ m) e

    -- the session's locks are at most those of a list that it had, and one move's more
    moved_fewer : (t : Transaction) (x : Move) (r : Option Reply) (b : Bool) → s.transaction ≡ Some t → Fewer (locks_held_in σ.sessions ++ with_age t.age (lock_of_move x)) (locks_held_in (with_changed σ.sessions (with_transaction s (after_move t x r b))))
    moved_fewer t x r b e p h =
        let q = or_parts (list_any p (locks_held_in σ.sessions)) (list_any p (with_age t.age (lock_of_move x))) (sym (list_any-append p (locks_held_in σ.sessions) (with_age t.age (lock_of_move x))) ∙ h) in
        held_changed p σ.sessions (with_transaction s (after_move t x r b)) q.0 (moved_held p t x r b (own_held p t e q.0) q.1)

    lockless_fewer : (t : Transaction) (x : Move) (r : Option Reply) (b : Bool) → s.transaction ≡ Some t → lock_of_move x ≡ [] → Fewer (locks_held_in σ.sessions) (locks_held_in (with_changed σ.sessions (with_transaction s (after_move t x r b))))
    lockless_fewer t x r b e none p h = moved_fewer t x r b e p (list_any-append p (locks_held_in σ.sessions) (with_age t.age (lock_of_move x)) ∙ (λ i. h i || list_any p (with_age t.age (none i))))

    -- a move that asks for no lock, of a session none of whose requests is kept
    lockless_rising : (qs : List Queued) (t : Transaction) (x : Move) (r : Reply) → s.transaction ≡ Some t → lock_of_move x ≡ [] → qs ≡ without_request σ.queue s.number → IsRising (make (with_queue σ qs) s t x r).state
    lockless_rising qs t x r e none q = gone_rising σ (make (with_queue σ qs) s t x r).state s.number rise q (changed_others _)
        (dropped_rises σ (make (with_queue σ qs) s t x r).state s.number rise (lockless_fewer t x _ _ e none))

    -- the session's transaction begins anew or is over
    emptied_rising : (o : Option Transaction) (τ : State) → ((p : Owned → Bool) → list_any p (locks_held_by o) ≡ false) → τ.sessions ≡ with_changed σ.sessions (with_transaction s o) → τ.queue ≡ without_request σ.queue s.number → IsRising τ
    emptied_rising o τ none sessions q = gone_rising σ τ s.number rise q (λ m e. ap (λ (xs : List Session). transaction_in (session_at xs m)) sessions ∙ changed_others o m e)
        (dropped_rises σ τ s.number rise (λ p h. ap (λ (xs : List Session). list_any p (locks_held_in xs)) sessions ∙ held_changed p σ.sessions (with_transaction s o) h (none p)))

    retried_rising : (t : Transaction) (q : Queued) (b : Bool) → s.transaction ≡ Some t → request_in σ.queue s.number ≡ Some q → can_retry (ages_of σ) (t.age, needs q.operation) ≡ b → IsRising (try_again σ s t q.operation b).state
    retried_rising t q false e asked may = rise
    retried_rising t q true e asked may = gone_rising σ (try_again σ s t q.operation true).state s.number rise refl (changed_others _)
        (fewer_held (locks_held_in σ.sessions ++ r ∷ []) (locks_held_in (try_again σ s t q.operation true).state.sessions) [] (locks_queued_in (without_request σ.queue s.number)) (moved_fewer t (Do q.operation) _ _ e)
        (subst (λ (qs : List Owned). RisesAfter (locks_held_in σ.sessions ++ r ∷ []) [] qs) (sym (without_match s.number t.age σ.queue matched)) granted))
      where
        r : Owned
        r = (t.age, needs q.operation)

        matched : Match s.number t.age σ.queue
        matched = match_of σ s.number t σ.queue sound (mine ∙ e) rise.owners

        aged : t.age ≡ q.age
        aged = subst (λ (o : Option Transaction). HasAge o q.age) (mine ∙ e) (request_age (transaction_at σ) s.number σ.queue q rise.owners asked)

        granted : RisesAfter (locks_held_in σ.sessions ++ r ∷ []) [] (without t.age (locks_queued_in σ.queue))
        granted = subst (λ (b : Bool). Rises (after_retry (ages_of σ) r b)) may
            (retry_rises (ages_of σ) r (request_match s.number t.age σ.queue q matched asked ∙ ap (λ (a : ℕ). Some (a, needs q.operation)) (sym aged)) rise.rises)

    retry_in_rising : (q : Queued) (x : Option Transaction) → s.transaction ≡ x → request_in σ.queue s.number ≡ Some q → IsRising (retry_in σ s q.operation x).state
    retry_in_rising q None e asked = rise
    retry_in_rising q (Some t) e asked = retried_rising t q _ e asked refl

    retry_rising : (q : Option Queued) → request_in σ.queue s.number ≡ q → IsRising (retry σ s q).state
    retry_rising None asked = rise
    retry_rising (Some q) asked = retry_in_rising q s.transaction refl asked

    abort_rising : (r : Term) (x : Option Transaction) → s.transaction ≡ x → IsRising (abort σ s r x).state
    abort_rising r None e = rise
    abort_rising r (Some t) e = lockless_rising (without_request σ.queue s.number) t Undo (reply.UserAbort r) e refl refl

    leave_rising : IsRising (leave σ s).state
    leave_rising = gone_rising σ (leave σ s).state s.number rise refl
        (λ m e. ap transaction_in (session_at-without σ.sessions s.number m) ∙ ap (λ (b : Bool). transaction_in (if b then None else session_at σ.sessions m)) e)
        (dropped_rises σ (leave σ s).state s.number rise (λ p h. held_without p σ.sessions s.number h))

    -- its transaction stays
    marks_rising : (x : Session) (τ : State) → x.number ≡ s.number → x.transaction ≡ s.transaction → τ.sessions ≡ with_changed σ.sessions x → τ.queue ≡ σ.queue → IsRising τ
    marks_rising x τ num same sessions q = same_rising σ τ rise q
        (λ m. ap (λ (xs : List Session). transaction_in (session_at xs m)) sessions ∙ changed_transactions σ.sessions s x s.number here num m ∙ ap (λ (o : Option Transaction). if m == s.number then o else transaction_at σ m) (same ∙ sym mine) ∙ sym (same_if (transaction_at σ) m s.number))
        (λ p h. ap (λ (xs : List Session). list_any p (locks_held_in xs)) sessions ∙ held_changed p σ.sessions x h (ap (λ (o : Option Transaction). list_any p (locks_held_by o)) (same ∙ sym mine) ∙ held_none p σ.sessions s.number h))

    marked_rising : (over : Bool) (ws : List Watch) (x : Item) (e : Entry) → IsRising (put_marker σ over s ws x e).state
    marked_rising true ws x e = marks_rising _ (put_marker σ true s ws x e).state refl refl refl refl
    marked_rising false ws x e = marks_rising _ (put_marker σ false s ws x e).state refl refl refl refl

    give_rising : (xs : List Item) (l : Option ℕ) → IsRising (give σ s xs l).state
    give_rising (x ∷ xs) l = marks_rising _ (give σ s (x ∷ xs) l).state refl refl refl refl
    give_rising [] None = rise
    give_rising [] (Some m) = marks_rising _ (give σ s [] (Some m)).state refl refl refl refl

    subscribe_rising : (over : List ℕ) (t : List ℕ) (l : Level) (dump : Bool) (r : Option Reply) → IsRising (subscribe_if σ over s t l dump r).state
    subscribe_rising over t l dump (Some r) = rise
    subscribe_rising over t l dump None = marked_rising _ _ _ _

    unsubscribe_rising : (over : List ℕ) (t : List ℕ) (b : Bool) → IsRising (unsubscribe_if σ over s t b).state
    unsubscribe_rising over t false = rise
    unsubscribe_rising over t true = marked_rising _ _ _ _

    -- commands of a session that doesn't wait
    module _ (free : is_waiting σ s.number ≡ false) where
      none_waits : σ.queue ≡ without_request σ.queue s.number
      none_waits = sym (none_queued σ.queue s.number free)

      decided_rising : (t : Transaction) (o : Operation) (a : Answer) → s.transaction ≡ Some t → decide (ages_of σ) (t.age, needs o) ≡ a → IsRising (by_lock_answer σ s t o a).state
      decided_rising t o Granted e is = gone_rising σ (make σ s t (Do o) reply.Done).state s.number rise none_waits (changed_others _)
          (subst (λ (qs : List Queued). RisesAfter (locks_held_in (make σ s t (Do o) reply.Done).state.sessions) [] (locks_queued_in qs)) none_waits
          (fewer_held (locks_held_in σ.sessions ++ (t.age, needs o) ∷ []) (locks_held_in (make σ s t (Do o) reply.Done).state.sessions) [] (locks_queued_in σ.queue) (moved_fewer t (Do o) _ _ e)
          (subst (λ (a : Answer). Rises (after_request (ages_of σ) (t.age, needs o) a)) is (request_rises (ages_of σ) (t.age, needs o) rise.rises))))
      decided_rising t o Wait e is = record {
        rises = subst (λ (qs : List Owned). RisesAfter (locks_held_in σ.sessions) [] qs) (sym (queued_in-push σ.queue (record { session = s.number; age = t.age; operation = o })))
            (subst (λ (a : Answer). Rises (after_request (ages_of σ) (t.age, needs o) a)) is (request_rises (ages_of σ) (t.age, needs o) rise.rises));
        owners = owned_push (transaction_at σ) σ.queue (record { session = s.number; age = t.age; operation = o }) rise.owners (subst (λ (x : Option Transaction). HasAge x t.age) (sym (mine ∙ e)) refl);
      }
      decided_rising t o Die e is = emptied_rising (Some (begun_anew t)) (by_lock_answer σ s t o Die).state (λ p. refl) refl none_waits

      within_rising : (t : Transaction) (o : Operation) (b : Bool) → s.transaction ≡ Some t → IsRising (within_limit σ s t o b).state
      within_rising t o false e = rise
      within_rising t o true e = decided_rising t o _ e refl

      operate_rising : (o : Operation) (x : Option Transaction) → s.transaction ≡ x → IsRising (operate σ s o x).state
      operate_rising o None e = rise
      operate_rising o (Some t) e = within_rising t o _ e

      opened_rising : (b : Bool) → IsRising (open_level_1 σ s b).state
      opened_rising false = rise
      opened_rising true = emptied_rising (Some (record { age = σ.next_age; moves = []; told = [] })) (open_level_1 σ s true).state (λ p. refl) refl none_waits

      nested_rising : (t : Transaction) (a b : Bool) → s.transaction ≡ Some t → IsRising (open_child σ s t a b).state
      nested_rising t false b e = rise
      nested_rising t true false e = rise
      nested_rising t true true e = lockless_rising σ.queue t Open reply.Done e refl none_waits

      begin_rising : (x : Option Transaction) → s.transaction ≡ x → IsRising (begin σ s x).state
      begin_rising None e = opened_rising _
      begin_rising (Some t) e = nested_rising t _ _ e

      one_shot_rising : (x : Option Transaction) → IsRising (one_shot σ s x).state
      one_shot_rising None = opened_rising _
      one_shot_rising (Some t) = rise

      commit_at_rising : (over : List ℕ) (t : Transaction) (b : Bool) → s.transaction ≡ Some t → IsRising (commit_at σ over s t b).state
      commit_at_rising over t false e = lockless_rising σ.queue t Close reply.Done e refl none_waits
      commit_at_rising over t true e = gone_rising σ (commit_at σ over s t true).state s.number rise none_waits
          (λ m d. mapped_transaction f same (with_changed σ.sessions (with_transaction s None)) m ∙ changed_others None m d)
          (dropped_rises σ (commit_at σ over s t true).state s.number rise
          (λ p h. ap (list_any p) (held_mapped f (λ x. (same x).1) (with_changed σ.sessions (with_transaction s None))) ∙ held_changed p σ.sessions (with_transaction s None) h refl))
        where
          f : Session → Session
          f x = after_put (σ.commits + 1) over (batch_to (σ.commits + 1) (events_now σ t) x) x

          same : (x : Session) → ((f x).number ≡ x.number) × ((f x).transaction ≡ x.transaction)
          same x = given_same (σ.commits + 1) over (batch_to (σ.commits + 1) (events_now σ t) x) x

      commit_rising : (over : List ℕ) (x : Option Transaction) → s.transaction ≡ x → IsRising (commit σ over s x).state
      commit_rising over None e = rise
      commit_rising over (Some t) e = commit_at_rising over t _ e

    schema_if_rising : (over : List ℕ) (c : Schema) (r : Option Reply) (busy room : Bool) → IsRising (schema_if σ over c r busy room).state
    schema_if_rising over c (Some r) busy room = rise
    schema_if_rising over c None true room = rise
    schema_if_rising over c None false false = rise
    schema_if_rising over c None false true = same_rising σ (schema_if σ over c None false true).state rise refl (mapped_transaction f same σ.sessions) (λ p h. ap (list_any p) (held_mapped f (λ x. (same x).1) σ.sessions) ∙ h)
      where
        f : Session → Session
        f x = after_put (σ.commits + 1) over (end_to (removed_table c) x) (without_deleted (removed_table c) x)

        same : (x : Session) → ((f x).number ≡ x.number) × ((f x).transaction ≡ x.transaction)
        same x = let a = given_same (σ.commits + 1) over (end_to (removed_table c) x) (without_deleted (removed_table c) x) in let b = unwatched_same (removed_table c) x in (a.0 ∙ b.0, a.1 ∙ b.1)

    schema_rising : (over : List ℕ) (c : Schema) (x : Option Transaction) → IsRising (schema σ over c x).state
    schema_rising over c (Some t) = rise
    schema_rising over c None = schema_if_rising over c _ _ _

    do_rising : (over : List ℕ) (c : Command) → (is_waiting σ s.number && not (is_abort c)) ≡ false → IsRising (do_command σ over s c).state
    do_rising over (command.Schema c) free = schema_rising over c s.transaction
    do_rising over (command.TableInfo t i) free = rise
    do_rising over command.Begin free = begin_rising (sym (and-true (is_waiting σ s.number)) ∙ free) s.transaction refl
    do_rising over command.Commit free = commit_rising (sym (and-true (is_waiting σ s.number)) ∙ free) over s.transaction refl
    do_rising over (command.Abort r) free = abort_rising r s.transaction refl
    do_rising over (command.Do o) free = operate_rising (sym (and-true (is_waiting σ s.number)) ∙ free) o s.transaction refl
    do_rising over (command.Subscribe t l dump) free = subscribe_rising over t l dump _
    do_rising over (command.Unsubscribe t l) free = unsubscribe_rising over t _
    do_rising over (command.OneShot parts retries) free = one_shot_rising (sym (and-true (is_waiting σ s.number)) ∙ free) s.transaction

    command_rising : (over : List ℕ) (c : Command) (b : Bool) → (is_waiting σ s.number && not (is_abort c)) ≡ b → IsRising (command_if σ over s c b).state
    command_rising over c true free = rise
    command_rising over c false free = do_rising over c free

    seated_rising : (over : List ℕ) (a : Ask) → IsRising (step_of_joined σ over s a).state
    seated_rising over (Join b) = rise
    seated_rising over Leave = leave_rising
    seated_rising over Retry = retry_rising _ refl
    seated_rising over Take = give_rising _ _
    seated_rising over (DoCommand c) = command_rising over c _ refl

  join_rising : (n : ℕ) (b : Outbox) (above room : Bool) → session_at σ.sessions n ≡ None → IsRising (join_if σ n b above room).state
  join_rising n b false room none = rise
  join_rising n b true false none = rise
  join_rising n b true true none = same_rising σ (join_if σ n b true true).state rise refl
      (λ m. ap transaction_in (session_at-push σ.sessions (fresh n b) m none) ∙ transaction_if (m == n) (Some (fresh n b)) (session_at σ.sessions m) ∙ ap (λ (o : Option Transaction). if m == n then o else transaction_at σ m) (sym (ap transaction_in none)) ∙ sym (same_if (transaction_at σ) m n))
      (λ p h. ap (list_any p) (held_pushed n b σ.sessions) ∙ h)

  unseated_rising : (n : ℕ) (a : Ask) → session_at σ.sessions n ≡ None → IsRising (step_of_stranger σ n a).state
  unseated_rising n (Join b) none = join_rising n b _ _ none
  unseated_rising n Leave none = rise
  unseated_rising n Retry none = rise
  unseated_rising n Take none = rise
  unseated_rising n (DoCommand c) none = rise

pub step_rising : (σ : State) (over : List ℕ) (n : ℕ) (a : Ask) → IsSound σ → IsRising σ → IsRising (outcome σ over n a).state
unfolding outcome
step_rising σ over n a sound rise = cases (session_at σ.sessions n) refl
  where
    cases : (o : Option Session) → session_at σ.sessions n ≡ o → IsRising (step_of σ over n a o).state
    cases None none = unseated_rising σ sound rise n a none
    cases (Some s) here = seated_rising σ sound rise s (ap (session_at σ.sessions) (found σ.sessions s n here) ∙ here) over a

run_rising : (σ : State) (calls : List Call) → IsSound σ → IsRising σ → IsRising (after_all σ calls)
run_rising σ [] sound rise = rise
run_rising σ (c ∷ calls) sound rise = run_rising (outcome_of σ c).state calls (step_sound σ c.over c.session c.ask sound) (step_rising σ c.over c.session c.ask sound rise)

pub new_rising : (limits : Limits) → IsRising (new limits)
new_rising limits = record { rises = tt; owners = tt }

-- in every reached state ages rise along every wait
pub schedule_rises : (limits : Limits) (calls : List Call) → Rises (ages_of (after_all (new limits) calls))
schedule_rises limits calls = (run_rising (new limits) calls (new_sound limits) (new_rising limits)).rises

-- so no chain of waits leads back there
pub schedule_chain : (limits : Limits) (calls : List Call) (a b : ℕ) (bs : List ℕ) → Chain (ages_of (after_all (new limits) calls)) a (b ∷ bs) → a < last_of b bs
schedule_chain limits calls a b bs c = chain_rises (ages_of (after_all (new limits) calls)) a b bs (schedule_rises limits calls) c
