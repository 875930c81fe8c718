-- Commits and schema commands: what they owe is delivered.
use Rattle.std.proofs.Common.{◌≡◌, ℕ, ◌+◌, List, [], ◌∷◌, Bool, true, false, ◌&&◌, ◌||◌, not, refl, sym, ap, ◌∙◌, subst, Option, Some, None}
use Rattle.std.specs.Prelude.{if◌then◌else◌, is_some, Result, Ok, Err, IfOk, OnErr, map, option_map}
use Rattle.std.specs.List.{filter}
use Rattle.tab_model.specs.declared.data.Change.{Change}
use Rattle.tab_model.specs.declared.data.Entry.TheVariants.{Committed, Changed}
use Rattle.tab_model.specs.declared.data.Event.{Event}
use Rattle.tab_model.specs.declared.data.Item.{Item}
use Rattle.tab_model.specs.declared.data.Limit.TheVariants as limit
use Rattle.tab_model.specs.declared.data.Move.{Move}
use Rattle.tab_model.specs.declared.data.Reply.{Reply}
use Rattle.tab_model.specs.declared.data.Reply.TheVariants as reply
use Rattle.tab_model.specs.declared.data.Schema.{Schema}
use Rattle.tab_model.specs.declared.data.Schema.TheVariants.{Create, Remove, AddIndex, DelIndex}
use Rattle.tab_model.specs.declared.data.Command.{Command}
use Rattle.tab_model.specs.declared.data.Command.TheVariants as command
use Rattle.tab_model.specs.Catalogs.{Catalog}
use Rattle.tab_model.specs.Events.{events, surviving_changes}
use Rattle.tab_model.specs.Schemas.{table_of_schema, schema_refusal, schema_effect, removed_table}
use Rattle.tab_model.specs.Slices.{batch_for, end_for}
use Rattle.tab_model.specs.State as plain
use Rattle.tab_model.specs.State.{Transaction, Watch, Session, State, session_at, transaction_at, is_waiting, is_busy, level_in, mid_of}
use Rattle.tab_model.specs.declared.ask.Ask.TheVariants.{Do as DoCommand}
use Rattle.tab_model.specs.Outcome.{Ask, Outcome, outcome, is_empty, first_of, refusal_if, unless_refused, with_changed, with_transaction, after_put, batch_to, commit_now, commit, events_now, without_deleted, end_to, schema_now, schema_refusals, has_room, schema, do_command, is_abort, step_of}
use Rattle.tab_model.proofs.StepCases.{commit_at, command_if}
use Rattle.tab_model.specs.Run.{IsSplitByOverflow, put_ask, put_commit, put_schema}
use Rattle.tab_model.proofs.Splits.{none_handed}
use Rattle.tab_model.proofs.SessionLists.{found}
use Rattle.tab_core.specs.Joined.{Subscriber}
use Rattle.tab_subs.specs.Deliveries.{Owed, Delivers, AreDecided, given_all}
use Rattle.tab_core.specs.declared.step.Stepped.{Stepped}
use Rattle.tab_core.specs.Outermost.{outermost, outermost_of, ending_of, after_commit, Commits, CommitsBy}
use Rattle.tab_core.specs.Kept.{Agree, IsKept}
use Rattle.tab_core.specs.Parts.{Parts, session_of, state_of}
use Rattle.tab_core.specs.Redefining.{Redefines, RedefinesBy}
use Rattle.tab_core.specs.Steps as manager
use Rattle.tab_core.specs.Steps.{asks_for_none, is_told_for_none, tells_for_none, takes_no_memory}
use Rattle.tab_core.proofs.Keeping.{SameKeys, kept_put, kept_same}
use Rattle.tab_core.proofs.MachineSteps.{both_ways}
use Rattle.tab_core.proofs.SessionsLemmas.{same_keys}
use Rattle.tab_core.specs.declared.committing.Updated.{Updated}
use Rattle.tab_core.specs.Owing as owing
use Rattle.tab_core.specs.Owing.{are_watched, Updates, Owes, with_overflowed}
use Rattle.tab_core.specs.Runs.{StepsTo}
use Rattle.tab_core.specs.Subscribing.{inside_refusal, refused_by}
use Rattle.tab_core.proofs.Delivering as giving
use Rattle.tab_core.proofs.Delivering.{keys_given, no_items, none_given, none_decided, none_over, sessions_after, are_pinned, SamePosts, same_ended, same_items, same_those, same_decided}
use Rattle.tab_core.proofs.Batches.{no_batches, batches_of_watched}

-- the state with other sessions
abbrev pub with_sessions : State → List Subscriber → State
with_sessions σ ss = record σ { sessions = map session_of ss }

-- a step whose entry names those who overflowed
abbrev pub with_over : List ℕ → Stepped → Stepped
with_over over x = record { reply = x.reply; entry = option_map (with_overflowed over) x.entry }

-- a session that is idle
pub idles : (σ : State) (over : List ℕ) (n : ℕ) (s : Session) (c : Command) → session_at σ.sessions n ≡ Some s → is_waiting σ s.number ≡ false → outcome σ over n (DoCommand c) ≡ do_command σ over s c
unfolding outcome
idles σ over n s c here idle = ap (step_of σ over n (DoCommand c)) here ∙ ap (λ b. command_if σ over s c (b && not (is_abort c))) idle

-- ---- the transaction that ends

pub record IsEnding (σ : State) (n : ℕ) (t : Transaction) : Type 0 where
  pub slot : Session
  pub here : session_at σ.sessions n ≡ Some slot
  pub opened : slot.transaction ≡ Some t
  pub idle : is_waiting σ slot.number ≡ false
  pub deep : is_empty (mid_of σ t).saved ≡ true

pub is_ending : (σ : State) (n : ℕ) (t : Transaction) → outermost σ n ≡ Some t → IsEnding σ n t
is_ending σ n t h = by (is_waiting σ n) refl h
  where
    deep_if : (u : Transaction) (b : Bool) → is_empty (mid_of σ u).saved ≡ b → (if b then Some u else None) ≡ Some t → (u ≡ t) × (is_empty (mid_of σ u).saved ≡ true)
    deep_if u true e g = (one g, e)
      where
        one : Some u ≡ Some t → u ≡ t
        one q = cc
    deep_if u false e g = cc

    at_transaction : (s : Session) (o : Option Transaction) → s.transaction ≡ o → session_at σ.sessions n ≡ Some s → is_waiting σ n ≡ false → outermost_of σ o ≡ Some t → IsEnding σ n t
    at_transaction s None e here idle g = cc
    at_transaction s (Some u) e here idle g =
        let p = deep_if u (is_empty (mid_of σ u).saved) refl g in
        record { slot = s; here = here; opened = e ∙ ap Some p.0; idle = ap (is_waiting σ) (found σ.sessions s n here) ∙ idle; deep = ap (λ (x : Transaction). is_empty (mid_of σ x).saved) (sym p.0) ∙ p.1 }

    at_session : (o : Option Session) → session_at σ.sessions n ≡ o → is_waiting σ n ≡ false → outermost_of σ (plain.transaction_in o) ≡ Some t → IsEnding σ n t
    at_session None e idle g = cc
    at_session (Some s) e idle g = at_transaction s s.transaction refl e idle g

    by : (b : Bool) → is_waiting σ n ≡ b → (if b then None else outermost_of σ (transaction_at σ n)) ≡ Some t → IsEnding σ n t
    by true e g = cc
    by false e g = at_session (session_at σ.sessions n) refl e g

-- what a call says of it
pub ended_by : (o : Option Transaction) (e : ℕ × List Change) → Some e ≡ option_map ending_of o → (t : Transaction) × (o ≡ Some t) × (e ≡ ending_of t)
ended_by None e h = cc
ended_by (Some t) e h = (t, refl, one h)
  where
    one : Some e ≡ Some (ending_of t) → e ≡ ending_of t
    one q = cc

none_ended : (o : Option Transaction) → None ≡ option_map ending_of o → o ≡ None
none_ended None h = refl
none_ended (Some t) h = cc

pub none_of : {A : Type 0} (f : A → ℕ × List Change) (r : Option A) (o : Option Transaction) → ((x : A) → r ≡ Some x → ⊥) → option_map f r ≡ option_map ending_of o → o ≡ None
none_of f None o n h = none_ended o h
none_of f (Some x) o n h = absurd (n x refl)

-- ---- a commit that ends no outermost transaction

pub inner_commit_makes : (σ : State) (n : ℕ) (s : Stepped) (τ : State) → outermost σ n ≡ None → manager.StepsTo σ n (DoCommand command.Commit) s τ → StepsTo σ n (DoCommand command.Commit) s τ
inner_commit_makes σ n s τ none h = ([], subst (λ ss. IsSplitByOverflow ss []) (sym (by (session_at σ.sessions n) refl)) none_handed, h)
  where
    ends_none : (r : Session) → session_at σ.sessions n ≡ Some r → is_waiting σ r.number ≡ false → outermost_of σ r.transaction ≡ None
    ends_none r g w =
        ap (outermost_of σ) (sym (ap plain.transaction_in g))
        ∙ sym (ap (λ b. if b then None else outermost_of σ (transaction_at σ n)) (ap (is_waiting σ) (sym (found σ.sessions r n g)) ∙ w))
        ∙ none

    puts : (t : Option Transaction) → outermost_of σ t ≡ None → put_commit σ t ≡ []
    puts None q = refl
    puts (Some t) q = at_depth (is_empty (mid_of σ t).saved) q
      where
        at_depth : (b : Bool) → (if b then Some t else None) ≡ None → (if b then filter (λ x. not (is_empty (batch_to (σ.commits + 1) (events_now σ t) x))) σ.sessions else []) ≡ []
        at_depth true p = cc
        at_depth false p = refl

    wait : (r : Session) (b : Bool) → is_waiting σ r.number ≡ b → session_at σ.sessions n ≡ Some r → (if b then [] else put_commit σ r.transaction) ≡ []
    wait r true e g = refl
    wait r false e g = puts r.transaction (ends_none r g e)

    by : (o : Option Session) → session_at σ.sessions n ≡ o → put_ask σ (DoCommand command.Commit) (session_at σ.sessions n) ≡ []
    by None e = ap (put_ask σ (DoCommand command.Commit)) e
    by (Some r) e = ap (put_ask σ (DoCommand command.Commit)) e ∙ wait r (is_waiting σ r.number) refl e

-- ---- outermost commits

module _ (μ : State) (ss : List Subscriber) (n : ℕ) where
  abbrev σ : State
  σ = with_sessions μ ss

  abbrev pub number : ℕ
  number = μ.commits + 1

  module _ (t : Transaction) (ends : outermost σ n ≡ Some t) where
    abbrev pub batch : List Watch → List Item
    batch ws = batch_for (level_in ws) number (events μ.tables t.age (surviving_changes t.moves t.told))

    e : IsEnding σ n t
    e = is_ending σ n t ends

    commits_now : (over : List ℕ) → outcome σ over n (DoCommand command.Commit) ≡ commit_now σ over e.slot t (events_now σ t)
    commits_now over = idles σ over n e.slot command.Commit e.here e.idle ∙ ap (commit σ over e.slot) e.opened ∙ ap (commit_at σ over e.slot t) e.deep

    puts_batches : put_ask σ (DoCommand command.Commit) (session_at σ.sessions n) ≡ filter (giving.owing batch) (map session_of ss)
    puts_batches =
        ap (put_ask σ (DoCommand command.Commit)) e.here
        ∙ ap (λ b. if b then [] else put_commit σ e.slot.transaction) e.idle
        ∙ ap (put_commit σ) e.opened
        ∙ ap (λ b. if b then filter (giving.owing batch) (map session_of ss) else []) e.deep

    -- the machine's part of it, which leaves all posts as they are
    module _ (x : Stepped) (ν : State) (ss' : List Subscriber) (made : Commits σ n t x (with_sessions ν ss')) where
      state_is : with_sessions ν ss' ≡ after_commit σ e.slot t
      state_is = (made e.slot e.here).0

      step_is : x ≡ record { reply = reply.Atomic number; entry = Some (Committed number e.slot.number t.age t.moves t.told []) }
      step_is = (made e.slot e.here).1

      seats : map session_of ss' ≡ with_changed (map session_of ss) (with_transaction e.slot None)
      seats = ap (λ (τ : State). τ.sessions) state_is

      posts : SamePosts ss' ss
      posts = same_ended ss ss' e.slot (ap (session_at (map session_of ss)) (found (map session_of ss) e.slot n e.here) ∙ e.here) seats

      -- and what is then put
      pub commit_makes : (items : List (List Item)) → items ≡ map (λ (b : Subscriber). batch b.watching) ss → (ss'' : List Subscriber) (over : List ℕ) → Delivers (record { number = number; items = items; ended = None }) ss' ss'' over
          → (s : Stepped) → s ≡ with_over over x → StepsTo σ n (DoCommand command.Commit) s (with_sessions ν ss'')
      commit_makes items is ss'' over d s told = (
        over,
        subst (λ xs. IsSplitByOverflow xs over) (sym puts_batches) (are_pinned batch over ss (d.over_are ∙ same_those over ss' ss posts) (subst (λ ys. AreDecided over ys ss) is (same_decided over items ss' ss posts d.decided))),
        commits_now over
            ∙ (λ i. record { state = record (after_commit σ e.slot t) { sessions = sessions i }; reply = reply.Atomic number; entry = Some (Committed number e.slot.number t.age t.moves t.told over) })
            ∙ (λ i. record { state = record (sym state_is i) { sessions = map session_of ss'' }; reply = Stepped.reply (told' i); entry = Stepped.entry (told' i) }),
      )
        where
          told' : with_over over (record { reply = reply.Atomic number; entry = Some (Committed number e.slot.number t.age t.moves t.told []) }) ≡ s
          told' = sym (told ∙ ap (with_over over) step_is)

          sessions : map (λ y. after_put number over (batch_to number (events_now σ t) y) y) (with_changed (map session_of ss) (with_transaction e.slot None)) ≡ map session_of ss''
          sessions =
              ap (map (λ y. after_put number over (batch_to number (events_now σ t) y) y)) (sym seats)
              ∙ sessions_after number over None batch ss'
              ∙ ap (map session_of) (sym (d.given ∙ ap (λ ys. given_all number over None ys ss') (is ∙ sym (same_items batch ss' ss posts))))

      -- where no one watches what it changes
      pub unseen_commit_makes : are_watched ss (surviving_changes t.moves t.told) ≡ false → StepsTo σ n (DoCommand command.Commit) x (with_sessions ν ss')
      unseen_commit_makes unseen = commit_makes (no_items ss) (sym (no_batches number ss μ.tables t.age (surviving_changes t.moves t.told) unseen)) ss' [] nothing x (step_is ∙ ap (with_over []) (sym step_is))
        where
          none_due : no_items ss ≡ no_items ss'
          none_due = sym (same_items (λ ws. []) ss' ss posts)

          nothing : Delivers (record { number = number; items = no_items ss; ended = None }) ss' ss' []
          nothing = record {
            over_are = none_over ss';
            given = sym (ap (λ ys. given_all number [] None ys ss') none_due ∙ none_given number ss');
            decided = subst (λ ys. AreDecided [] ys ss') (sym none_due) (none_decided ss');
          }

-- one whose call says what it would change, where no one watches that
pub unwatched_commit_makes : (μ : State) (ss : List Subscriber) (n : ℕ) (x : Stepped) (ν : State) (ss' : List Subscriber) (e : ℕ × List Change) → Some e ≡ option_map ending_of (outermost (with_sessions μ ss) n) → are_watched ss e.1 ≡ false
    → CommitsBy (with_sessions μ ss) n x (with_sessions ν ss') (outermost (with_sessions μ ss) n) → StepsTo (with_sessions μ ss) n (DoCommand command.Commit) x (with_sessions ν ss')
unwatched_commit_makes μ ss n x ν ss' e h unseen made =
    let t = ended_by (outermost (with_sessions μ ss) n) e h in
    unseen_commit_makes μ ss n t.0 t.1 x ν ss' (subst (CommitsBy (with_sessions μ ss) n x (with_sessions ν ss')) t.1 made) (ap (λ (p : ℕ × List Change). are_watched ss p.1) (sym t.2) ∙ unseen)

abbrev batches_at : ℕ → List Subscriber → List Event → List (List Item)
batches_at k ss es = map (λ (b : Subscriber). batch_for (level_in b.watching) k es) ss

-- one whose batches were delivered
pub ended_commit_makes : (μ : State) (ss : List Subscriber) (n : ℕ) (u : Updated) (ends : owing.Commits (with_sessions μ ss) ss n u) (x : Stepped) (ν : State) (ss' : List Subscriber)
    → ((t : Transaction) → outermost (with_sessions μ ss) n ≡ Some t → Commits (with_sessions μ ss) n t x (with_sessions ν ss'))
    → (ss'' : List Subscriber) (over : List ℕ) (expected : Owed) (m : ℕ) (es : List Event) → es ≡ u.events.items
    → expected ≡ record { number = m; items = map (λ (b : Subscriber). batch_for (level_in b.watching) m es) ss; ended = None } → m ≡ μ.commits + 1 → Delivers expected ss' ss'' over
    → (s : Stepped) → s ≡ with_over over x → StepsTo (with_sessions μ ss) n (DoCommand command.Commit) s (with_sessions ν ss'')
ended_commit_makes μ ss n u ends x ν ss' made ss'' over expected m es es_are expected_is m_is d s told =
    let t = ends.transaction in
    commit_makes μ ss n t ends.ends x ν ss' (made t ends.ends) (batches_at (μ.commits + 1) ss es)
    (ap (batches_at (μ.commits + 1) ss) (es_are ∙ ends.updates.events) ∙ batches_of_watched (μ.commits + 1) ss (events μ.tables t.age (surviving_changes t.moves t.told))) ss'' over
    (subst (λ o. Delivers o ss' ss'' over) (expected_is ∙ ap (λ k. let o : Owed = record { number = k; items = batches_at k ss es; ended = None } in o) m_is) d) s told

-- ---- what a commit takes

-- an outermost commit is told its number
commit_told : (σ : State) (n : ℕ) (t : Transaction) → outermost σ n ≡ Some t → is_told_for_none σ n (DoCommand command.Commit) ≡ false
commit_told σ n t ends =
    let e = is_ending σ n t ends in
    ap (λ (x : Outcome). tells_for_none (is_some (transaction_at σ n)) (DoCommand command.Commit) x.reply)
    (idles σ [] n e.slot command.Commit e.here e.idle ∙ ap (commit σ [] e.slot) e.opened ∙ ap (commit_at σ [] e.slot t) e.deep)

pub did_nothing : (σ : State) (n : ℕ) (t : Transaction) → outermost σ n ≡ Some t → takes_no_memory σ n (DoCommand command.Commit) ≡ true → asks_for_none σ n (DoCommand command.Commit) ≡ true
did_nothing σ n t ends h = both_ways (asks_for_none σ n (DoCommand command.Commit)) (is_told_for_none σ n (DoCommand command.Commit)) h (λ e. e) (λ e. let no : true ≡ false = sym e ∙ commit_told σ n t ends in cc)

-- one that did nothing has no updates
no_updates : (σ : State) (n : ℕ) (t : Transaction) → outermost σ n ≡ Some t → takes_no_memory σ n (DoCommand command.Commit) ≡ true → surviving_changes t.moves t.told ≡ []
no_updates σ n t ends h = by t.moves none_made
  where
    none_made : is_empty t.moves ≡ true
    none_made =
        let e = is_ending σ n t ends in
        sym (ap (λ o. is_empty (plain.moves_in o)) (ap plain.transaction_in e.here ∙ e.opened)) ∙ did_nothing σ n t ends h

    by : (xs : List Move) → is_empty xs ≡ true → surviving_changes xs t.told ≡ []
    by [] q = refl
    by (x ∷ xs) q = cc

pub nothing_due : (σ : State) (n : ℕ) (e : ℕ × List Change) → Some e ≡ option_map ending_of (outermost σ n) → takes_no_memory σ n (DoCommand command.Commit) ≡ true → e.1 ≡ []
nothing_due σ n e h takes =
    let t = ended_by (outermost σ n) e h in
    ap (λ (p : ℕ × List Change). p.1) t.2 ∙ no_updates σ n t.0 t.1 takes

pub unwatched_of : (w : Catalog) (ss : List Subscriber) (age : ℕ) (cs : List Change) (o : Option Updated) → ((u : Updated) → o ≡ Some u → ⊥) → Owes w ss age cs o → are_watched ss cs ≡ false
unwatched_of w ss age cs None n h = h
unwatched_of w ss age cs (Some u) n h = absurd (n u refl)

pub commits_of : (ss : List Subscriber) (σ : State) (n : ℕ) (e : ℕ × List Change) (u : Updated) → Some e ≡ option_map ending_of (outermost σ n) → Updates σ.tables ss e.0 e.1 u → owing.Commits σ ss n u
commits_of ss σ n e u h updates =
    let t = ended_by (outermost σ n) e h in record {
      transaction = t.0;
      ends = t.1;
      updates = subst (λ (p : ℕ × List Change). Updates σ.tables ss p.0 p.1 u) t.2 updates;
    }

-- ---- schema commands

-- of a session outside a transaction
pub record IsOutside (σ : State) (n : ℕ) : Type 0 where
  pub slot : Session
  pub here : session_at σ.sessions n ≡ Some slot
  pub idle : is_waiting σ slot.number ≡ false
  pub closed : slot.transaction ≡ None

pub is_outside : (σ : State) (n : ℕ) → None ≡ refused_by σ n inside_refusal (session_at σ.sessions n) → IsOutside σ n
is_outside σ n h = by (session_at σ.sessions n) refl h
  where
    closed_if : (o : Option Transaction) → None ≡ (if is_some o then Some reply.InTransaction else None) → o ≡ None
    closed_if None g = refl
    closed_if (Some t) g = cc

    by_wait : (s : Session) (b : Bool) → session_at σ.sessions n ≡ Some s → is_waiting σ n ≡ b → None ≡ (if b then Some reply.WaitingNow else inside_refusal s) → IsOutside σ n
    by_wait s true here w g = cc
    by_wait s false here w g = record { slot = s; here = here; idle = ap (is_waiting σ) (found σ.sessions s n here) ∙ w; closed = closed_if s.transaction g }

    by : (o : Option Session) → session_at σ.sessions n ≡ o → None ≡ refused_by σ n inside_refusal o → IsOutside σ n
    by None here g = cc
    by (Some s) here g = by_wait s (is_waiting σ n) here refl g

module _ (μ : State) (ss : List Subscriber) (n : ℕ) (c : Schema) (free : None ≡ refused_by (with_sessions μ ss) n inside_refusal (session_at (map session_of ss) n)) where
  abbrev pub mark : List Watch → List Item
  mark ws = end_for (level_in ws) (removed_table c)

  abbrev before : State
  before = with_sessions μ ss

  abbrev a : Ask
  a = DoCommand (command.Schema c)

  o : IsOutside before n
  o = is_outside before n free

  redefines_now : (over : List ℕ) → outcome before over n a ≡ unless_refused before (first_of (schema_refusals before c None)) (schema_now before over c)
  redefines_now over = idles before over n o.slot (command.Schema c) o.here o.idle ∙ ap (schema before over c) o.closed

  puts_marks : put_ask before a (session_at (map session_of ss) n) ≡ put_schema before c None
  puts_marks =
      ap (put_ask before a) o.here
      ∙ ap (λ b. if b then [] else put_schema before c o.slot.transaction) o.idle
      ∙ ap (put_schema before c) o.closed

  -- only a table's creation may lack room, and it owes nothing
  no_marks : (d : Schema) → has_room before d ≡ false → (xs : List Session) → filter (λ (x : Session). not (is_empty (end_to (removed_table d) x))) xs ≡ []
  no_marks (Create t os) h [] = refl
  no_marks (Create t os) h (x ∷ xs) = no_marks (Create t os) h xs
  no_marks (Remove t) h xs = cc
  no_marks (AddIndex t x) h xs = cc
  no_marks (DelIndex t x) h xs = cc

  abbrev refusal_by : Option Reply → Bool → Bool → Option Reply
  refusal_by q busy room = first_of (q ∷ refusal_if busy (reply.Locked (table_of_schema c)) ∷ refusal_if (not room) (reply.SystemLimit limit.Tables) ∷ [])

  abbrev put_if : Bool → List Session
  put_if b = if b then [] else filter (giving.owing mark) (map session_of ss)

  none_put : (r : Reply) → first_of (schema_refusals before c None) ≡ Some r → IsSplitByOverflow (put_schema before c None) []
  none_put r h = by (schema_refusal μ.tables c) (is_busy before (table_of_schema c)) (has_room before c) refl h
    where
      by : (q : Option Reply) (busy room : Bool) → has_room before c ≡ room → refusal_by q busy room ≡ Some r → IsSplitByOverflow (put_if (is_some q || busy)) []
      by (Some q) busy room e g = none_handed
      by None true room e g = none_handed
      by None false false e g = subst (λ xs. IsSplitByOverflow xs []) (sym (no_marks c e (map session_of ss))) none_handed
      by None false true e g = cc

  all_put : first_of (schema_refusals before c None) ≡ None → put_schema before c None ≡ filter (giving.owing mark) (map session_of ss)
  all_put h = by (schema_refusal μ.tables c) (is_busy before (table_of_schema c)) (has_room before c) h
    where
      by : (q : Option Reply) (busy room : Bool) → refusal_by q busy room ≡ None → put_if (is_some q || busy) ≡ filter (giving.owing mark) (map session_of ss)
      by (Some q) busy room g = cc
      by None true room g = cc
      by None false false g = cc
      by None false true g = refl

  -- a refusal
  pub refused_schema_makes : (s : Stepped) (τ : State) → Redefines before c s τ → s.entry ≡ None → StepsTo before n a s τ
  refused_schema_makes s τ h none = by (first_of (schema_refusals before c None)) refl h
    where
      by : (r : Option Reply) → first_of (schema_refusals before c None) ≡ r → RedefinesBy r before c s τ → StepsTo before n a s τ
      by None e p = let no : None ≡ Some (Changed c []) = sym none ∙ ap (λ (x : Stepped). x.entry) p.0 in cc
      by (Some r) e p = (
        [],
        subst (λ xs. IsSplitByOverflow xs []) (sym puts_marks) (none_put r e),
        redefines_now [] ∙ ap (λ q. unless_refused before q (schema_now before [] c)) e
            ∙ (λ i. record { state = sym p.1 i; reply = Stepped.reply (sym p.0 i); entry = Stepped.entry (sym p.0 i) }),
      )

  -- it is done, and its end markers are put
  pub schema_makes : (x : Stepped) (ν : State) → Redefines before c x (with_sessions ν ss) → is_some x.entry ≡ true → (ss'' : List Subscriber) (over : List ℕ)
      → Delivers (record { number = μ.commits + 1; items = map (λ (b : Subscriber). mark b.watching) ss; ended = removed_table c }) ss ss'' over
      → (s : Stepped) → s ≡ with_over over x → StepsTo before n a s (with_sessions ν ss'')
  schema_makes x ν h some ss'' over d s told = by (first_of (schema_refusals before c None)) refl h
    where
      by : (r : Option Reply) → first_of (schema_refusals before c None) ≡ r → RedefinesBy r before c x (with_sessions ν ss) → StepsTo before n a s (with_sessions ν ss'')
      by (Some r) e p = let no : false ≡ true = sym (ap (λ (y : Stepped). is_some y.entry) p.0) ∙ some in cc
      by None e p = (
        over,
        subst (λ xs. IsSplitByOverflow xs over) (sym (puts_marks ∙ all_put e)) (are_pinned mark over ss d.over_are d.decided),
        redefines_now over ∙ ap (λ q. unless_refused before q (schema_now before over c)) e
            ∙ (λ i. record { state = record before { tables = schema_effect μ.tables c; sessions = sessions i }; reply = reply.AtomicOk; entry = Some (Changed c over) })
            ∙ (λ i. record { state = record (sym p.1 i) { sessions = map session_of ss'' }; reply = Stepped.reply (told' i); entry = Stepped.entry (told' i) }),
      )
        where
          told' : with_over over (record { reply = reply.AtomicOk; entry = Some (Changed c []) }) ≡ s
          told' = sym (told ∙ ap (with_over over) p.0)

          sessions : map (λ y. after_put (μ.commits + 1) over (end_to (removed_table c) y) (without_deleted (removed_table c) y)) (map session_of ss) ≡ map session_of ss''
          sessions = sessions_after (μ.commits + 1) over (removed_table c) mark ss ∙ ap (map session_of) (sym d.given)

  -- one that ends no table owes nothing
  pub quiet_schema_makes : removed_table c ≡ None → (s : Stepped) (ν : State) → Redefines before c s (with_sessions ν ss) → StepsTo before n a s (with_sessions ν ss)
  quiet_schema_makes none s ν h = by (first_of (schema_refusals before c None)) refl h
    where
      nothing : Delivers (record { number = μ.commits + 1; items = map (λ (b : Subscriber). mark b.watching) ss; ended = removed_table c }) ss ss []
      nothing = subst (λ u. Delivers (record { number = μ.commits + 1; items = map (λ (b : Subscriber). end_for (level_in b.watching) u) ss; ended = u }) ss ss []) (sym none)
          (record { over_are = none_over ss; given = sym (none_given (μ.commits + 1) ss); decided = none_decided ss })

      by : (r : Option Reply) → first_of (schema_refusals before c None) ≡ r → RedefinesBy r before c s (with_sessions ν ss) → StepsTo before n a s (with_sessions ν ss)
      by (Some r) e p = refused_schema_makes s (with_sessions ν ss) h (ap (λ (y : Stepped). y.entry) p.0)
      by None e p = schema_makes s ν h (ap (λ (y : Stepped). is_some y.entry) p.0) ss [] nothing s (p.0 ∙ ap (with_over []) (sym p.0))

  -- whose machine has the same sessions still
  pub quiet_schema_steps : removed_table c ≡ None → (s : Stepped) (ν : State) (ss' : List Subscriber) → ss' ≡ ss → Redefines before c s (with_sessions ν ss') → StepsTo before n a s (with_sessions ν ss')
  quiet_schema_steps none s ν ss' e = subst (λ xs. Redefines before c s (with_sessions ν xs) → StepsTo before n a s (with_sessions ν xs)) (sym e) (quiet_schema_makes none s ν)

pub not_removed : (c : Schema) → ((t : List ℕ) → c ≡ Remove t → ⊥) → removed_table c ≡ None
not_removed (Create t os) h = refl
not_removed (Remove t) h = absurd (h t refl)
not_removed (AddIndex t x) h = refl
not_removed (DelIndex t x) h = refl

abbrev owed_at : List Subscriber → ℕ → Option (List ℕ) → Owed
owed_at ss k u = record { number = k; items = map (λ (b : Subscriber). end_for (level_in b.watching) u) ss; ended = u }

-- a table's deletion that was made
pub removes : (μ : State) (ss : List Subscriber) (n : ℕ) (c : Schema) → None ≡ refused_by (with_sessions μ ss) n inside_refusal (session_at (map session_of ss) n) → (t : List ℕ) → c ≡ Remove t
    → (x : Stepped) (ν : State) → Redefines (with_sessions μ ss) c x (with_sessions ν ss) → is_some x.entry ≡ true → (ss'' : List Subscriber) (over : List ℕ) (expected : Owed) (m : ℕ)
    → expected ≡ record { number = m; items = map (λ (b : Subscriber). end_for (level_in b.watching) (Some t)) ss; ended = Some t } → m ≡ μ.commits + 1 → Delivers expected ss ss'' over
    → (s : Stepped) → s ≡ with_over over x → StepsTo (with_sessions μ ss) n (DoCommand (command.Schema c)) s (with_sessions ν ss'')
removes μ ss n c free t is x ν h made ss'' over expected m expected_is m_is d s told =
    schema_makes μ ss n c free x ν h made ss'' over (subst (λ o. Delivers o ss ss'' over) (expected_is ∙ (λ i. owed_at ss (m_is i) (removed i))) d) s told
  where
    removed : Some t ≡ removed_table c
    removed = sym (ap removed_table is)

-- whose machine has the same sessions before its end markers are put
pub removal_steps : (μ : State) (ss : List Subscriber) (n : ℕ) (c : Schema) → None ≡ refused_by (with_sessions μ ss) n inside_refusal (session_at (map session_of ss) n) → (t : List ℕ) → c ≡ Remove t
    → (x : Stepped) (ν : State) (ss' : List Subscriber) → ss' ≡ ss → Redefines (with_sessions μ ss) c x (with_sessions ν ss') → is_some x.entry ≡ true → (ss'' : List Subscriber) (over : List ℕ) (expected : Owed) (m : ℕ)
    → expected ≡ record { number = m; items = map (λ (b : Subscriber). end_for (level_in b.watching) (Some t)) ss; ended = Some t } → m ≡ μ.commits + 1 → Delivers expected ss' ss'' over
    → (s : Stepped) → s ≡ with_over over x → StepsTo (with_sessions μ ss) n (DoCommand (command.Schema c)) s (with_sessions ν ss'')
removal_steps μ ss n c free t is x ν ss' e h made ss'' over expected m expected_is m_is d s told =
    removes μ ss n c free t is x ν (subst (λ xs. Redefines (with_sessions μ ss) c x (with_sessions ν xs)) e h) made ss'' over expected m expected_is m_is (subst (λ xs. Delivers expected xs ss'' over) e d) s told

-- ---- what is kept

-- after a step that puts items, by the machine's part of it
pub put_keeps : (m μ : Parts) (ss : List Subscriber) (n : ℕ) (a : Ask) (s : Stepped) → IsKept m → Agree μ → SameKeys μ.sessions ss → StepsTo (state_of m) n a s (state_of (record μ { sessions = ss })) → IsKept (record μ { sessions = ss })
put_keeps m μ ss n a s k agree same p = kept_put m μ ss p.0 n a s.reply s.entry k agree same p.2

-- after a step that puts none, or for which memory was refused
pub step_keeps : {E : Type 0} (m m' : Parts) (n : ℕ) (a : Ask) (P : Stepped → Type 0) (r : Result Stepped E) → IsKept m → Agree m' → ((s : Stepped) → P s → StepsTo (state_of m) n a s (state_of m')) → IfOk r P → OnErr r (state_of m' ≡ state_of m) → IsKept m'
step_keeps m m' n a P (Ok s) k agree f h e = put_keeps m m' m'.sessions n a s k agree (same_keys m'.sessions) (f s h)
step_keeps m m' n a P (Err x) k agree f h e = kept_same m m' k agree e

pub delivered_keys : (expected : Owed) (xs ys : List Subscriber) (over : List ℕ) → Delivers expected xs ys over → SameKeys xs ys
delivered_keys expected xs ys over d = subst (SameKeys xs) (sym d.given) (keys_given expected.number over expected.ended expected.items xs)

-- a refusal of memory leaves a machine, and so the state
pub same_err : {T E M : Type 0} (f : M → State) (x y : M) (r : Result T E) → OnErr r (x ≡ y) → OnErr r (f x ≡ f y)
same_err f x y (Ok t) h = tt
same_err f x y (Err z) h = ap f h
