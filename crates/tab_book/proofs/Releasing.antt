-- A step lets go of nothing, unless the session's transaction ends or begins anew, or its queued request is dropped.
use Rattle.std.proofs.Common.{◌≡◌, ◌⊎◌, inl, inr, ℕ, ◌+◌, List, [], ◌∷◌, ◌++◌, Bool, true, false, refl, sym, ap, ◌∙◌, subst, arith, append-nil, Option, Some, None}
use Rattle.std.specs.Prelude.{◌==◌, ◌-◌, ◌^◌, suc, min, nat_lt, length, if◌then◌else◌, is_some, IfSome, MatchOption}
use Rattle.std.proofs.lemmas.Bool.Decides.{nat_tests}
use Rattle.tab_term.specs.declared.term.Term.{Term}
use Rattle.tab_model.specs.declared.data.Operation.{Operation}
use Rattle.tab_model.specs.declared.data.Move.{Move}
use Rattle.tab_model.specs.declared.data.Move.TheVariants.{Do, Open, Close, Undo}
use Rattle.tab_model.specs.declared.data.Reply.{Reply}
use Rattle.tab_model.specs.declared.data.Reply.TheVariants as reply
use Rattle.tab_model.specs.declared.data.Item.{Item}
use Rattle.tab_model.specs.declared.data.Level.{Level}
use Rattle.tab_model.specs.declared.data.Schema.{Schema}
use Rattle.tab_model.specs.declared.data.Command.{Command}
use Rattle.tab_model.specs.declared.data.Command.TheVariants as command
use Rattle.tab_model.specs.declared.data.Entry.{Entry}
use Rattle.tab_model.specs.Alone.{reply_to}
use Rattle.tab_model.specs.Ages.{Owned, Answer, Granted, Wait, Die}
use Rattle.tab_model.specs.Locks.{needs, locks_of}
use Rattle.tab_model.specs.Schemas.{removed_table}
use Rattle.tab_model.specs.State.{Transaction, Outbox, Watch, Session, Queued, State, session_at, transaction_in, transaction_at, age_in, age_at, request_in, without_request, is_waiting, with_age, locks_held_by, mid_of}
use Rattle.tab_model.specs.declared.ask.Ask.TheVariants.{Join, Leave, Retry, Take, Do as DoCommand}
use Rattle.tab_model.specs.Outcome.{Ask, Outcome, step_without_entry, outcome, with_session, with_transaction, with_queue, with_changed, with_move, ends_transaction, reply_or, make, by_lock_answer, operate, retry_in, retry, begin, one_shot, abort, after_put, batch_to, end_to, without_deleted, commit, events_now, schema, put_marker, do_command, give, leave, step_of_joined, fresh, step_of_stranger, step_of}
use Rattle.tab_model.proofs.StepCases.{after_move, within_limit, try_again, open_level_1, open_child, commit_at, schema_if, subscribe_if, unsubscribe_if, command_if, join_if}
use Rattle.tab_model.specs.Standing.{levels_in, levels_of}
use Rattle.tab_model.proofs.SessionLists.{eq_true, itself, found, session_at-push, session_at-without}
use Rattle.tab_model.proofs.StepsBySession.{lock_of_move, locks-more}
use Rattle.tab_model.proofs.SoundSteps.{given_same, unwatched_same}
use Rattle.tab_model.proofs.RefusalLaws.{none_queued}
use Rattle.tab_model.proofs.CallersLemmas.{same_if, transaction_if, changed_transactions, mapped_transaction}
use Rattle.tab_model.proofs.ReachedWaits.{aged_append}
use Rattle.tab_book.specs.Releases.{is_retry, held_at, LetsGoOfNothing, SaysReleases}

-- the session's transaction is over
abbrev Ends : State → ℕ → State → Type 0
Ends σ n τ = (is_some (transaction_at σ n) ≡ true) × (transaction_at τ n ≡ None)

-- its queued request is gone, and was not granted
abbrev Drops : Bool → State → ℕ → State → Type 0
Drops retries σ n τ = (retries ≡ false) × (is_waiting σ n ≡ true) × (is_waiting τ n ≡ false)

abbrev Lets : Bool → State → ℕ → Outcome → Type 0
Lets retries σ n o = LetsGoOfNothing σ o.state ⊎ (Ends σ n o.state ⊎ (Drops retries σ n o.state ⊎ (o.reply ≡ reply.Restart)))

request_in-without : (qs : List Queued) (n m : ℕ) → request_in (without_request qs n) m ≡ (if m == n then None else request_in qs m)
request_in-without [] n m = grind (arith, nat_tests)
request_in-without (q ∷ qs) n m = grind (arith, nat_tests, request_in-without qs n m)

request_stays : (qs : List Queued) (x : Queued) (m : ℕ) (q : Queued) → request_in qs m ≡ Some q → request_in (qs ++ x ∷ []) m ≡ Some q
request_stays [] x m q e = cc
request_stays (p ∷ qs) x m q e = cases (p.session == m) e (request_stays qs x m q)
  where
    cases : (b : Bool) → (if b then Some p else request_in qs m) ≡ Some q → (request_in qs m ≡ Some q → request_in (qs ++ x ∷ []) m ≡ Some q) → (if b then Some p else request_in (qs ++ x ∷ []) m) ≡ Some q
    cases true h ih = h
    cases false h ih = ih h

module _ (σ : State) where
  -- all transactions and requests stay
  same_lets : (τ : State) → ((m : ℕ) → transaction_at τ m ≡ transaction_at σ m) → ((m : ℕ) (q : Queued) → request_in σ.queue m ≡ Some q → request_in τ.queue m ≡ Some q) → LetsGoOfNothing σ τ
  same_lets τ h k = record { held = λ m. ([], ap locks_held_by (h m) ∙ sym (append-nil (held_at σ m))); queued = λ m q e. inl (k m q e) }

  none_lets : LetsGoOfNothing σ σ
  none_lets = same_lets σ (λ m. refl) (λ m q e. e)

  -- one session's transaction holds more
  one_lets : (τ : State) (n : ℕ) (o : Option Transaction) (xs : List Owned) → ((m : ℕ) → transaction_at τ m ≡ (if m == n then o else transaction_at σ m)) → locks_held_by o ≡ held_at σ n ++ xs
      → ((m : ℕ) (q : Queued) → request_in σ.queue m ≡ Some q → (request_in τ.queue m ≡ Some q) ⊎ ((m ≡ n) × (xs ≡ (age_at σ n, needs q.operation) ∷ []))) → LetsGoOfNothing σ τ
  one_lets τ n o xs h grows asked = record { held = λ m. held_if m (m == n) refl; queued = λ m q e. asked_if m q (asked m q e) }
    where
      held_if : (m : ℕ) (b : Bool) → (m == n) ≡ b → (ys : List Owned) × (held_at τ m ≡ held_at σ m ++ ys)
      held_if m true e = (xs, ap locks_held_by (h m ∙ ap (λ b. if b then o else transaction_at σ m) e) ∙ grows ∙ ap (λ k. held_at σ k ++ xs) (sym (eq_true m n e)))
      held_if m false e = ([], ap locks_held_by (h m ∙ ap (λ b. if b then o else transaction_at σ m) e) ∙ sym (append-nil (held_at σ m)))

      held_n : held_at τ n ≡ held_at σ n ++ xs
      held_n = ap locks_held_by (h n ∙ ap (λ b. if b then o else transaction_at σ n) (itself n)) ∙ grows

      asked_if : (m : ℕ) (q : Queued) → (request_in τ.queue m ≡ Some q) ⊎ ((m ≡ n) × (xs ≡ (age_at σ n, needs q.operation) ∷ [])) → (request_in τ.queue m ≡ Some q) ⊎ (held_at τ m ≡ held_at σ m ++ (age_at σ m, needs q.operation) ∷ [])
      asked_if m q (inl g) = inl g
      asked_if m q (inr g) = inr (subst (λ (k : ℕ). held_at τ k ≡ held_at σ k ++ (age_at σ k, needs q.operation) ∷ []) (sym g.0) (held_n ∙ ap (λ (ys : List Owned). held_at σ n ++ ys) g.1))

  -- commands of a seat that sits
  module _ (s : Session) (here : session_at σ.sessions s.number ≡ Some s) where
    mine : transaction_at σ s.number ≡ s.transaction
    mine = ap transaction_in here

    changed : (o : Option Transaction) (m : ℕ) → transaction_in (session_at (with_changed σ.sessions (with_transaction s o)) m) ≡ (if m == s.number then o else transaction_at σ m)
    changed o m = changed_transactions σ.sessions s (with_transaction s o) s.number here refl m

    gone : (o : Option Transaction) → transaction_in (session_at (with_changed σ.sessions (with_transaction s o)) s.number) ≡ o
    gone o = changed o s.number ∙ ap (λ b. if b then o else transaction_at σ s.number) (itself s.number)

    dropped : is_waiting (with_queue σ (without_request σ.queue s.number)) s.number ≡ false
    dropped = ap is_some (request_in-without σ.queue s.number s.number ∙ ap (λ b. if b then None else request_in σ.queue s.number) (itself s.number))

    -- a move is made, and the requests go on as they are told to
    made_lets : (retries : Bool) (qs : List Queued) (t : Transaction) (x : Move) (r : Reply) → s.transaction ≡ Some t
        → ((m : ℕ) (q : Queued) → request_in σ.queue m ≡ Some q → (request_in qs m ≡ Some q) ⊎ ((m ≡ s.number) × (with_age t.age (lock_of_move x) ≡ (age_at σ s.number, needs q.operation) ∷ [])))
        → Lets retries σ s.number (make (with_queue σ qs) s t x r)
    made_lets retries qs t x r e asked = by (ends_transaction (mid_of σ t) x)
      where
        by : (b : Bool) → Lets retries σ s.number (step_without_entry (with_session (with_queue σ qs) (with_transaction s (after_move t x (reply_to (mid_of σ t) x) b))) (reply_or (reply_to (mid_of σ t) x) r))
        by true = inr (inl (ap is_some (mine ∙ e), gone None))
        by false = inl (one_lets (with_session (with_queue σ qs) (with_transaction s (Some (with_move t x (reply_to (mid_of σ t) x))))) s.number (Some (with_move t x (reply_to (mid_of σ t) x))) (with_age t.age (lock_of_move x)) (changed _)
            (ap (with_age t.age) (locks-more t.moves x) ∙ aged_append t.age (locks_of t.moves) (lock_of_move x) ∙ ap (λ (o : Option Transaction). locks_held_by o ++ with_age t.age (lock_of_move x)) (sym (mine ∙ e)))
            asked)

    decided_lets : (t : Transaction) (o : Operation) (a : Answer) → s.transaction ≡ Some t → Lets false σ s.number (by_lock_answer σ s t o a)
    decided_lets t o Granted e = made_lets false σ.queue t (Do o) reply.Done e (λ m q h. inl h)
    decided_lets t o Wait e = inl (same_lets (by_lock_answer σ s t o Wait).state (λ m. refl) (λ m q h. request_stays σ.queue _ m q h))
    decided_lets t o Die e = inr (inr (inr refl))

    within_lets : (t : Transaction) (o : Operation) (b : Bool) → s.transaction ≡ Some t → Lets false σ s.number (within_limit σ s t o b)
    within_lets t o false e = inl none_lets
    within_lets t o true e = decided_lets t o _ e

    operate_lets : (o : Operation) (x : Option Transaction) → s.transaction ≡ x → Lets false σ s.number (operate σ s o x)
    operate_lets o None e = inl none_lets
    operate_lets o (Some t) e = within_lets t o _ e

    retried_lets : (t : Transaction) (q : Queued) (b : Bool) → s.transaction ≡ Some t → request_in σ.queue s.number ≡ Some q → Lets true σ s.number (try_again σ s t q.operation b)
    retried_lets t q false e asked = inl none_lets
    retried_lets t q true e asked = made_lets true (without_request σ.queue s.number) t (Do q.operation) reply.Done e (λ m p h. cases m p h (m == s.number) refl)
      where
        cases : (m : ℕ) (p : Queued) → request_in σ.queue m ≡ Some p → (b : Bool) → (m == s.number) ≡ b
            → (request_in (without_request σ.queue s.number) m ≡ Some p) ⊎ ((m ≡ s.number) × (with_age t.age (needs q.operation ∷ []) ≡ (age_at σ s.number, needs p.operation) ∷ []))
        cases m p h false d = inl (request_in-without σ.queue s.number m ∙ ap (λ b. if b then None else request_in σ.queue m) d ∙ h)
        cases m p h true d =
            let at_n : m ≡ s.number = eq_true m s.number d in
            let both : Some q ≡ Some p = sym asked ∙ ap (request_in σ.queue) (sym at_n) ∙ h in
            let same : q ≡ p = cc in
            inr (at_n, λ i. (ap age_in (sym (mine ∙ e)) i, needs (same i).operation) ∷ [])

    retry_in_lets : (q : Queued) (x : Option Transaction) → s.transaction ≡ x → request_in σ.queue s.number ≡ Some q → Lets true σ s.number (retry_in σ s q.operation x)
    retry_in_lets q None e asked = inl none_lets
    retry_in_lets q (Some t) e asked = retried_lets t q _ e asked

    retry_lets : (q : Option Queued) → request_in σ.queue s.number ≡ q → Lets true σ s.number (retry σ s q)
    retry_lets None asked = inl none_lets
    retry_lets (Some q) asked = retry_in_lets q s.transaction refl asked

    opened_lets : (b : Bool) → s.transaction ≡ None → Lets false σ s.number (open_level_1 σ s b)
    opened_lets false e = inl none_lets
    opened_lets true e = inl (one_lets (open_level_1 σ s true).state s.number (Some (record { age = σ.next_age; moves = []; told = [] })) [] (changed _) (ap (λ (o : Option Transaction). locks_held_by o ++ []) (sym (mine ∙ e))) (λ m q h. inl h))

    nested_lets : (t : Transaction) (a b : Bool) → s.transaction ≡ Some t → Lets false σ s.number (open_child σ s t a b)
    nested_lets t false b e = inl none_lets
    nested_lets t true false e = inl none_lets
    nested_lets t true true e = made_lets false σ.queue t Open reply.Done e (λ m q h. inl h)

    begin_lets : (x : Option Transaction) → s.transaction ≡ x → Lets false σ s.number (begin σ s x)
    begin_lets None e = opened_lets _ e
    begin_lets (Some t) e = nested_lets t _ _ e

    one_shot_lets : (x : Option Transaction) → s.transaction ≡ x → Lets false σ s.number (one_shot σ s x)
    one_shot_lets None e = opened_lets _ e
    one_shot_lets (Some t) e = inl none_lets

    -- where it waits, its request is dropped
    abort_lets : (r : Term) (x : Option Transaction) → s.transaction ≡ x → Lets false σ s.number (abort σ s r x)
    abort_lets r None e = inl none_lets
    abort_lets r (Some t) e = cases (is_waiting σ s.number) refl
      where
        cases : (b : Bool) → is_waiting σ s.number ≡ b → Lets false σ s.number (abort σ s r (Some t))
        cases true w = inr (inr (inl (refl, w, dropped)))
        cases false w = made_lets false (without_request σ.queue s.number) t Undo (reply.UserAbort r) e (λ m q h. inl (ap (λ (qs : List Queued). request_in qs m) (none_queued σ.queue s.number w) ∙ h))

    commit_at_lets : (over : List ℕ) (t : Transaction) (b : Bool) → s.transaction ≡ Some t → Lets false σ s.number (commit_at σ over s t b)
    commit_at_lets over t false e = made_lets false σ.queue t Close reply.Done e (λ m q h. inl h)
    commit_at_lets over t true e = inr (inl (ap is_some (mine ∙ e), mapped_transaction f (λ x. given_same (σ.commits + 1) over (batch_to (σ.commits + 1) (events_now σ t) x) x) (with_changed σ.sessions (with_transaction s None)) s.number ∙ gone None))
      where
        f : Session → Session
        f x = after_put (σ.commits + 1) over (batch_to (σ.commits + 1) (events_now σ t) x) x

    commit_lets : (over : List ℕ) (x : Option Transaction) → s.transaction ≡ x → Lets false σ s.number (commit σ over s x)
    commit_lets over None e = inl none_lets
    commit_lets over (Some t) e = commit_at_lets over t _ e

    schema_if_lets : (over : List ℕ) (c : Schema) (r : Option Reply) (busy room : Bool) → Lets false σ s.number (schema_if σ over c r busy room)
    schema_if_lets over c (Some r) busy room = inl none_lets
    schema_if_lets over c None true room = inl none_lets
    schema_if_lets over c None false false = inl none_lets
    schema_if_lets over c None false true = inl (same_lets (schema_if σ over c None false true).state (mapped_transaction f same σ.sessions) (λ m q h. h))
      where
        f : Session → Session
        f x = after_put (σ.commits + 1) over (end_to (removed_table c) x) (without_deleted (removed_table c) x)

        same : (x : Session) → ((f x).number ≡ x.number) × ((f x).transaction ≡ x.transaction)
        same x = let a = given_same (σ.commits + 1) over (end_to (removed_table c) x) (without_deleted (removed_table c) x) in let b = unwatched_same (removed_table c) x in (a.0 ∙ b.0, a.1 ∙ b.1)

    schema_lets : (over : List ℕ) (c : Schema) (x : Option Transaction) → Lets false σ s.number (schema σ over c x)
    schema_lets over c (Some t) = inl none_lets
    schema_lets over c None = schema_if_lets over c _ _ _

    -- the seat keeps its transaction
    kept_lets : (x : Session) (τ : State) → x.number ≡ s.number → x.transaction ≡ s.transaction → τ.sessions ≡ with_changed σ.sessions x → τ.queue ≡ σ.queue → LetsGoOfNothing σ τ
    kept_lets x τ num same sessions q = same_lets τ
        (λ m. ap (λ (xs : List Session). transaction_in (session_at xs m)) sessions ∙ changed_transactions σ.sessions s x s.number here num m ∙ ap (λ (o : Option Transaction). if m == s.number then o else transaction_at σ m) (same ∙ sym mine) ∙ sym (same_if (transaction_at σ) m s.number))
        (λ m r h. ap (λ (qs : List Queued). request_in qs m) q ∙ h)

    marked_lets : (over : Bool) (ws : List Watch) (x : Item) (e : Entry) → Lets false σ s.number (put_marker σ over s ws x e)
    marked_lets true ws x e = inl (kept_lets _ (put_marker σ true s ws x e).state refl refl refl refl)
    marked_lets false ws x e = inl (kept_lets _ (put_marker σ false s ws x e).state refl refl refl refl)

    subscribe_lets : (over : List ℕ) (t : List ℕ) (l : Level) (dump : Bool) (r : Option Reply) → Lets false σ s.number (subscribe_if σ over s t l dump r)
    subscribe_lets over t l dump (Some r) = inl none_lets
    subscribe_lets over t l dump None = marked_lets _ _ _ _

    unsubscribe_lets : (over : List ℕ) (t : List ℕ) (b : Bool) → Lets false σ s.number (unsubscribe_if σ over s t b)
    unsubscribe_lets over t false = inl none_lets
    unsubscribe_lets over t true = marked_lets _ _ _ _

    give_lets : (xs : List Item) (l : Option ℕ) → Lets false σ s.number (give σ s xs l)
    give_lets (x ∷ xs) l = inl (kept_lets _ (give σ s (x ∷ xs) l).state refl refl refl refl)
    give_lets [] None = inl none_lets
    give_lets [] (Some m) = inl (kept_lets _ (give σ s [] (Some m)).state refl refl refl refl)

    leave_lets : (x : Option Transaction) → s.transaction ≡ x → Lets false σ s.number (leave σ s)
    leave_lets (Some t) e = inr (inl (ap is_some (mine ∙ e), ap transaction_in (session_at-without σ.sessions s.number s.number ∙ ap (λ b. if b then None else session_at σ.sessions s.number) (itself s.number))))
    leave_lets None e = cases (is_waiting σ s.number) refl
      where
        cases : (b : Bool) → is_waiting σ s.number ≡ b → Lets false σ s.number (leave σ s)
        cases true w = inr (inr (inl (refl, w, dropped)))
        cases false w = inl (one_lets (leave σ s).state s.number None [] (λ m. ap transaction_in (session_at-without σ.sessions s.number m) ∙ transaction_if (m == s.number) None (session_at σ.sessions m)) (ap (λ (o : Option Transaction). locks_held_by o ++ []) (sym (mine ∙ e)))
            (λ m q h. inl (ap (λ (qs : List Queued). request_in qs m) (none_queued σ.queue s.number w) ∙ h)))

    do_lets : (over : List ℕ) (c : Command) → Lets false σ s.number (do_command σ over s c)
    do_lets over (command.Schema c) = schema_lets over c s.transaction
    do_lets over (command.TableInfo t i) = inl none_lets
    do_lets over command.Begin = begin_lets s.transaction refl
    do_lets over command.Commit = commit_lets over s.transaction refl
    do_lets over (command.Abort r) = abort_lets r s.transaction refl
    do_lets over (command.Do o) = operate_lets o s.transaction refl
    do_lets over (command.Subscribe t l dump) = subscribe_lets over t l dump _
    do_lets over (command.Unsubscribe t l) = unsubscribe_lets over t _
    do_lets over (command.OneShot parts retries) = one_shot_lets s.transaction refl

    command_lets : (over : List ℕ) (c : Command) (b : Bool) → Lets false σ s.number (command_if σ over s c b)
    command_lets over c true = inl none_lets
    command_lets over c false = do_lets over c

    seated_lets : (over : List ℕ) (a : Ask) → Lets (is_retry a) σ s.number (step_of_joined σ over s a)
    seated_lets over (Join b) = inl none_lets
    seated_lets over Leave = leave_lets s.transaction refl
    seated_lets over Retry = retry_lets _ refl
    seated_lets over Take = give_lets _ _
    seated_lets over (DoCommand c) = command_lets over c _

  join_lets : (n : ℕ) (b : Outbox) (above room : Bool) → session_at σ.sessions n ≡ None → Lets false σ n (join_if σ n b above room)
  join_lets n b false room none = inl none_lets
  join_lets n b true false none = inl none_lets
  join_lets n b true true none = inl (same_lets (join_if σ n b true true).state
      (λ m. ap transaction_in (session_at-push σ.sessions (fresh n b) m none) ∙ transaction_if (m == n) (Some (fresh n b)) (session_at σ.sessions m) ∙ ap (λ (o : Option Transaction). if m == n then o else transaction_at σ m) (sym (ap transaction_in none)) ∙ sym (same_if (transaction_at σ) m n))
      (λ m q h. h))

  unseated_lets : (n : ℕ) (a : Ask) → session_at σ.sessions n ≡ None → Lets (is_retry a) σ n (step_of_stranger σ n a)
  unseated_lets n (Join b) none = join_lets n b _ _ none
  unseated_lets n Leave none = inl none_lets
  unseated_lets n Retry none = inl none_lets
  unseated_lets n Take none = inl none_lets
  unseated_lets n (DoCommand c) none = inl none_lets

step_lets : (σ : State) (over : List ℕ) (n : ℕ) (a : Ask) → Lets (is_retry a) σ n (outcome σ over n a)
unfolding outcome
step_lets σ over n a = cases (session_at σ.sessions n) refl
  where
    cases : (o : Option Session) → session_at σ.sessions n ≡ o → Lets (is_retry a) σ n (step_of σ over n a o)
    cases None none = unseated_lets σ n a none
    cases (Some s) here = subst (λ (k : ℕ). Lets (is_retry a) σ k (step_of σ over n a (Some s))) (found σ.sessions s n here) (seated_lets σ s (ap (session_at σ.sessions) (found σ.sessions s n here) ∙ here) over a)

-- where none of the three has come, nothing is let go of
pub nothing_let_go : (σ τ : State) (over : List ℕ) (n : ℕ) (a : Ask) (r : Reply) (e : Option Entry) → outcome σ over n a ≡ record { state = τ; reply = r; entry = e }
    → (is_some (transaction_at σ n) ≡ true → is_some (transaction_at τ n) ≡ false → ⊥) → (is_retry a ≡ false → is_waiting σ n ≡ true → is_waiting τ n ≡ false → ⊥) → (r ≡ reply.Restart → ⊥) → LetsGoOfNothing σ τ
nothing_let_go σ τ over n a r e is ended lost restarted = cases (subst (Lets (is_retry a) σ n) is (step_lets σ over n a))
  where
    cases : Lets (is_retry a) σ n (record { state = τ; reply = r; entry = e }) → LetsGoOfNothing σ τ
    cases (inl h) = h
    cases (inr (inl h)) = absurd (ended h.0 (ap is_some h.1))
    cases (inr (inr (inl h))) = absurd (lost h.0 h.1 h.2)
    cases (inr (inr (inr h))) = absurd (restarted h)

-- whether a session has a level, by their number
pub is_open_by_levels : (σ : State) (n : ℕ) → nat_lt 0 (min (levels_of σ n) (2 ^ 64 - 1)) ≡ is_some (transaction_at σ n)
is_open_by_levels σ n = cases (transaction_at σ n)
  where
    cases : (o : Option Transaction) → nat_lt 0 (min (levels_in σ o) (2 ^ 64 - 1)) ≡ is_some o
    cases None = refl
    cases (Some t) = above (length (mid_of σ t).saved)
      where
        above : (k : ℕ) → nat_lt 0 (min (suc k) (2 ^ 64 - 1)) ≡ true
        above k = grind (arith, nat_tests)

-- what a step says of its releases, by what stood before it
pub says_releases : {B : Type 0} (opens waits : B → Bool) (before : Option B) (σ τ : State) (over : List ℕ) (n : ℕ) (a : Ask) (r replied : Reply) (e : Option Entry) (releases retries : Bool)
    → MatchOption before (σ.queue ≡ []) (λ b. (opens b ≡ is_some (transaction_at σ n)) × (waits b ≡ is_waiting σ n)) → retries ≡ is_retry a → outcome σ over n a ≡ record { state = τ; reply = r; entry = e }
    → IfSome before (λ b. opens b ≡ true → is_some (transaction_at τ n) ≡ false → releases ≡ true) → IfSome before (λ b. retries ≡ false → waits b ≡ true → is_waiting τ n ≡ false → releases ≡ true)
    → IfSome before (λ b. replied ≡ reply.Restart → releases ≡ true) → replied ≡ r → SaysReleases releases σ τ
says_releases opens waits None σ τ over n a r replied e releases retries none asks is ended lost restarted same quiet = inl none
says_releases opens waits (Some b) σ τ over n a r replied e releases retries stood asks is ended lost restarted same quiet =
    inr (nothing_let_go σ τ over n a r e is (λ o g. never (ended (stood.0 ∙ o) g)) (λ p w g. never (lost (asks ∙ p) (stood.1 ∙ w) g)) (λ g. never (restarted (same ∙ g))))
  where
    never : releases ≡ true → ⊥
    never h = let both : false ≡ true = sym quiet ∙ h in cc
