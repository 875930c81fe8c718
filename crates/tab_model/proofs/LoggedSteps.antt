-- Each command keeps the state tied to its log, but for what rests on the log alone.
use Rattle.std.proofs.Common.{◌≡◌, ◌≢◌, ℕ, ◌+◌, ◌<◌, List, [], ◌∷◌, ◌++◌, Bool, true, false, ◌||◌, ◌&&◌, not, refl, sym, ap, ◌∙◌, subst, arith, append-nil, append_assoc, Option, Some, None}
use Rattle.std.specs.Prelude.{◌==◌, if◌then◌else◌, nat_lt, map, filter_map, is_some, codes}
use Rattle.std.specs.Str.{bytes_eq}
use Rattle.std.proofs.lemmas.Bool.{false≢true}
use Rattle.std.proofs.lemmas.Bool.Decides.{nat_tests}
use Rattle.std.proofs.lemmas.Slice.Eq.{bytes_eq-Decides}
use Rattle.std.proofs.Math.Bool.{or-false}
use Rattle.tab_term.specs.declared.term.Term.{Term}
use Rattle.tab_term.specs.View.{term}
use Rattle.tab_model.specs.declared.data.Operation.{Operation}
use Rattle.tab_model.specs.declared.data.Operation.TheVariants as op
use Rattle.tab_model.specs.declared.data.Move.{Move}
use Rattle.tab_model.specs.declared.data.Move.TheVariants.{Do, Open, Close, Undo}
use Rattle.tab_model.specs.declared.data.Item.{Item}
use Rattle.tab_model.specs.declared.data.Item.TheVariants.{Began, Ended}
use Rattle.tab_model.specs.declared.data.Ending.TheVariants as ending
use Rattle.tab_model.specs.declared.data.Level.{Level}
use Rattle.tab_model.specs.declared.data.Event.{Event}
use Rattle.tab_model.specs.declared.data.Schema.{Schema}
use Rattle.tab_model.specs.declared.data.Schema.TheVariants.{Create, Remove, AddIndex, DelIndex}
use Rattle.tab_model.specs.Shapes.{term_value}
use Rattle.tab_term.specs.Data.{atom, pair}
use Rattle.tab_model.specs.declared.data.Command.{Command}
use Rattle.tab_model.specs.declared.data.Command.TheVariants as command
use Rattle.tab_model.specs.declared.data.InfoItem.{InfoItem}
use Rattle.tab_model.specs.declared.data.InfoItem.TheVariants as item
use Rattle.tab_model.specs.declared.data.Reply.{Reply}
use Rattle.tab_model.specs.declared.data.Reply.TheVariants as reply
use Rattle.tab_model.specs.declared.data.Limit.TheVariants as limit
use Rattle.tab_model.specs.declared.data.Entry.{Entry}
use Rattle.tab_model.specs.declared.data.Entry.TheVariants.{Committed, Changed, Subscribed, Unsubscribed}
use Rattle.tab_model.specs.Definitions.{fits_def, is_indexed, position, Parsed, Good, Bad, parse_options}
use Rattle.tab_model.specs.Catalogs.{Catalog, Table, find}
use Rattle.tab_model.specs.Operations.{bad_type, failure_in, answer_or, answer}
use Rattle.tab_model.specs.Alone.{Mid, start, replies, reply_to}
use Rattle.tab_model.specs.Events.{events, surviving_changes}
use Rattle.tab_model.specs.Ages.{Answer, Granted, Wait, Die}
use Rattle.tab_model.specs.Schemas.{removed_table, schema_refusal, table_of_schema, create_refusal, bad_parse, remove_refusal, add_refusal, del_refusal, is_some_position}
use Rattle.tab_model.specs.Log.{catalog_after, serial, has_session, is_removed, level_if, level_after, in_force, IsRight, count_after}
use Rattle.tab_model.specs.Slices.{as_batch, shape_at, batch_for, dump_of, end_for, unless_over, expected_items}
use Rattle.tab_model.specs.State.{Transaction, Outbox, Watch, Session, Queued, State, new, session_at, transaction_in, moves_in, replies_in, age_in, without_request, level_in, without_watch, mid_of, IsSound}
use Rattle.tab_model.specs.Run.{entries, item_of, delivered_by, JoinsEmpty, IsSessionTied, IsNew}
use Rattle.tab_model.specs.declared.ask.Ask.TheVariants.{Join, Leave, Retry, Take, Do as DoCommand}
use Rattle.tab_model.specs.Outcome.{Ask, step_without_entry, with_changed, with_transaction, with_queue, with_items, reply_or, make, by_lock_answer, operate, retry_in, retry, begin, one_shot, abort, after_overflow, after_put, batch_to, commit_now, events_now, commit, without_deleted, end_to, schema_now, schema, table_info, is_at, put_marker, subscribe_refusal, do_command, give, items_to_take, leave, step_of_joined, fresh, step_of_stranger, step_of, outcome}
use Rattle.tab_model.proofs.StepCases.{within_limit, try_again, open_level_1, open_child, commit_at, schema_if, subscribe_refusal_if, subscribe_if, unsubscribe_if, command_if, join_if}
use Rattle.tab_model.proofs.SessionLists.{eq_true, differs, differs', itself, found, session_at-push, session_at-without, session_at-map, mapped_some}
use Rattle.tab_model.proofs.LoggedLemmas.{IsLogged, kept, none_taken, Ties, quiet_tied, Moves, entry_tied, changed_some}

-- an operation's answer gives no item
if_item : (b : Bool) (f : Reply) (t : Table) (o : Operation) → item_of f ≡ [] → item_of (answer_or None (Some t) o) ≡ [] → item_of (answer_or (if b then None else Some f) (Some t) o) ≡ []
if_item true f t o h g = g
if_item false f t o h g = h

answer_item : (t : Option Table) (o : Operation) → item_of (answer_or (failure_in t o) t o) ≡ []
answer_item None o = refl
answer_item (Some t) (op.Read n k) = refl
answer_item (Some t) (op.ReadForWrite n k) = refl
answer_item (Some t) (op.Write r) = if_item (fits_def t.def (term r)) (reply.BadType t.def.name r) t (op.Write r) refl refl
answer_item (Some t) (op.Delete n k) = refl
answer_item (Some t) (op.DeleteObject r) = if_item (fits_def t.def (term r)) (reply.BadType t.def.name r) t (op.DeleteObject r) refl refl
answer_item (Some t) (op.IndexRead n x a) = if_item (is_indexed t.def (position t.def (term a))) (reply.NoIndex n a) t (op.IndexRead n x a) refl refl
answer_item (Some t) (op.MatchObject p) = if_item (fits_def t.def (term p)) (reply.BadType t.def.name p) t (op.MatchObject p) refl refl
answer_item (Some t) (op.AllKeys n) = refl
answer_item (Some t) (op.ReadLockTable n) = refl
answer_item (Some t) (op.WriteLockTable n) = refl

pub said_item : (m : Mid) (x : Move) (r : Reply) → item_of r ≡ [] → item_of (reply_or (reply_to m x) r) ≡ []
said_item m (Do o) r h = answer_item (find m.now (Rattle.tab_model.specs.Operations.table_of o)) o
said_item m Open r h = refl
said_item m Close r h = refl
said_item m Undo r h = h

pub info_item : (n : List ℕ) (i : InfoItem) (t : Option Table) → item_of (table_info n i t) ≡ []
info_item n i None = refl
info_item n item.Kind (Some t) = refl
info_item n item.Attributes (Some t) = refl
info_item n item.Index (Some t) = refl
info_item n item.Size (Some t) = refl

-- levels after a table is left
bytes_true : (a b : List ℕ) → bytes_eq a b ≡ true → a ≡ b
bytes_true a b h = (bytes_eq-Decides a b).0 h

left_level : (xs : List Watch) (t u : List ℕ) → level_in (without_watch xs t) u ≡ level_if (not (bytes_eq t u)) (level_in xs u)
left_level [] t u = none (bytes_eq t u)
  where
    none : (b : Bool) → None ≡ level_if (not b) None
    none true = refl
    none false = refl
left_level (x ∷ xs) t u = cases (left_level xs t u) (bytes_eq x.table t) refl (bytes_eq x.table u) refl (bytes_eq t u) refl
  where
    cases : level_in (without_watch xs t) u ≡ level_if (not (bytes_eq t u)) (level_in xs u)
        → (a : Bool) → bytes_eq x.table t ≡ a → (b : Bool) → bytes_eq x.table u ≡ b → (c : Bool) → bytes_eq t u ≡ c
        → level_in (if not a then x ∷ without_watch xs t else without_watch xs t) u ≡ level_if (not c) (if b then Some x.level else level_in xs u)
    cases ih true e b f true g = ih ∙ ap (λ k. level_if (not k) (level_in xs u)) g
    cases ih true e true f false g = absurd (false≢true (sym g ∙ ap (λ n. bytes_eq n u) (sym (bytes_true x.table t e)) ∙ f))
    cases ih true e false f false g = ih ∙ ap (λ k. level_if (not k) (level_in xs u)) g
    cases ih false e true f true g = absurd (false≢true (sym e ∙ ap (λ n. bytes_eq n t) (bytes_true x.table u f ∙ sym (bytes_true t u g)) ∙ (bytes_eq-Decides t t).1 refl))
    cases ih false e true f false g = ap (λ k. if k then Some x.level else level_in (without_watch xs t) u) f
    cases ih false e false f c g = ap (λ k. if k then Some x.level else level_in (without_watch xs t) u) f ∙ ih ∙ ap (λ k. level_if (not k) (level_in xs u)) g

unwatched_level : (o : Option (List ℕ)) (x : Session) (u : List ℕ) → level_in (without_deleted o x).watching u ≡ level_if (not (is_removed u o)) (level_in x.watching u)
unwatched_level None x u = refl
unwatched_level (Some t) x u = left_level x.watching t u

unwatched_same : (o : Option (List ℕ)) (x : Session) → ((without_deleted o x).number ≡ x.number) × ((without_deleted o x).outbox ≡ x.outbox)
unwatched_same None x = (refl, refl)
unwatched_same (Some t) x = (refl, refl)

-- what a commit or a deletion gives to one session
given_moves : (q n : ℕ) (over : List ℕ) (items : List Item) (log : List Entry) (e : Entry) (x y : Session) → y.number ≡ q → y.outbox ≡ x.outbox
    → expected_items q log e ≡ unless_over (has_session over q) items
    → (has_session over q ≡ true → (u : List ℕ) → level_after q u (level_in x.watching u) e ≡ None)
    → (has_session over q ≡ false → (u : List ℕ) → level_in y.watching u ≡ level_after q u (level_in x.watching u) e)
    → Moves q log e x (after_put n over items y)
given_moves q n over items log e x y num outbox ow gone stay = cases (has_session over y.number) refl
  where
    at_q : has_session over y.number ≡ has_session over q
    at_q = ap (has_session over) num

    cases : (b : Bool) → has_session over y.number ≡ b → Moves q log e x (if b then after_overflow n y else record y { outbox = with_items y.outbox items })
    cases true h = record {
      watching = λ u. sym (gone (sym at_q ∙ h) u);
      items = ap (λ b. b.items) outbox ∙ sym (append-nil x.outbox.items) ∙ ap (λ xs. x.outbox.items ++ xs) (sym (ow ∙ ap (λ b. unless_over b items) (sym at_q ∙ h)));
    }
    cases false h = record {
      watching = λ u. stay (sym at_q ∙ h) u;
      items = ap (λ b. b.items ++ items) outbox ∙ ap (λ xs. x.outbox.items ++ xs) (sym (ow ∙ ap (λ b. unless_over b items) (sym at_q ∙ h)));
    }

given_number : (n : ℕ) (over : List ℕ) (items : List Item) (s : Session) → (after_put n over items s).number ≡ s.number
given_number n over items s = cases (has_session over s.number)
  where
    cases : (b : Bool) → Session.number (if b then after_overflow n s else record s { outbox = with_items s.outbox items }) ≡ s.number
    cases true = refl
    cases false = refl

kept_none : (b : Bool) → level_if b None ≡ None
kept_none true = refl
kept_none false = refl

pub batch_none : (n : ℕ) (es : List Event) → batch_for (λ u. None) n es ≡ []
batch_none n es = ap (as_batch n) (none es)
  where
    none : (es : List Event) → filter_map (λ e. shape_at None e) es ≡ []
    none [] = refl
    none (e ∷ es) = none es

end_none : (o : Option (List ℕ)) → end_for (λ u. None) o ≡ []
end_none None = refl
end_none (Some t) = refl

unless_nil : (b : Bool) → unless_over b [] ≡ []
unless_nil true = refl
unless_nil false = refl

-- no refusal gives an item
abbrev pub item_in : Option Reply → List Item
item_in None = []
item_in (Some x) = item_of x

parse_item : (n : List ℕ) (p : Parsed) → item_in (bad_parse n p) ≡ []
parse_item n (Good def) = refl
parse_item n (Bad what) = refl

if_none : (b : Bool) (r : Reply) → item_of r ≡ [] → item_in (if b then Some r else None) ≡ []
if_none true r h = h
if_none false r h = refl

if_some : (b : Bool) (r : Reply) → item_of r ≡ [] → item_in (if b then None else Some r) ≡ []
if_some true r h = refl
if_some false r h = h

pub refusal_item : (w : Catalog) (c : Schema) → item_in (schema_refusal w c) ≡ []
refusal_item w (Create t os) = create_item (find w t)
  where
    create_item : (x : Option Table) → item_in (create_refusal t os x) ≡ []
    create_item (Some x) = refl
    create_item None = parse_item t (parse_options t os)
refusal_item w (Remove t) = remove_item (find w t)
  where
    remove_item : (x : Option Table) → item_in (remove_refusal t x) ≡ []
    remove_item (Some x) = refl
    remove_item None = refl
refusal_item w (AddIndex t a) = add_item (find w t)
  where
    add_item : (x : Option Table) → item_in (add_refusal t a x) ≡ []
    add_item None = refl
    add_item (Some x) = if_none (not (is_some_position (position x.def (term a))) || is_indexed x.def (position x.def (term a))) (reply.BadDefinition t (term_value (pair (atom (codes "index")) (term a)))) refl
refusal_item w (DelIndex t a) = del_item (find w t)
  where
    del_item : (x : Option Table) → item_in (del_refusal t a x) ≡ []
    del_item None = refl
    del_item (Some x) = if_some (is_indexed x.def (position x.def (term a))) (reply.NoIndex t a) refl

pub sub_item : (σ : State) (s : Session) (t : List ℕ) → item_in (subscribe_refusal σ s t) ≡ []
sub_item σ s t = cases (is_some s.overflow) (not (is_some (find σ.tables t))) (is_some (level_in s.watching t))
  where
    cases : (a b c : Bool) → item_in (subscribe_refusal_if t a b c) ≡ []
    cases true b c = refl
    cases false true c = refl
    cases false false true = refl
    cases false false false = refl

module _ (σ : State) (log : List Entry) (tk : ℕ → List Item) (t : IsLogged σ log tk) where
  nothing_tied : (n : ℕ) (r : Reply) → item_of r ≡ [] → Ties n log tk (step_without_entry σ r)
  nothing_tied n r h = quiet_tied σ σ log tk _ t refl refl (omega arith) (λ q z f. subst (λ (xs : List Item). IsSessionTied q z log xs) (none_taken tk n r h q) (t.sessions q z f)) (λ q g. none_taken tk n r h q)

  requeued : (qs : List Queued) → IsLogged (with_queue σ qs) log tk
  requeued qs = record { tables = t.tables; legal = t.legal; commits = t.commits; sessions = t.sessions; fresh = t.fresh }

  module _ (s : Session) (here : session_at σ.sessions s.number ≡ Some s) where
    -- the session is another, with the same subscriptions and items
    same_tied : (s' : Session) (qs : List Queued) (a : ℕ) (r : Reply) → item_of r ≡ [] → s'.number ≡ s.number → s'.watching ≡ s.watching → s'.outbox.items ≡ s.outbox.items
        → Ties s.number log tk (step_without_entry (record σ { sessions = with_changed σ.sessions s'; queue = qs; next_age = a }) r)
    same_tied s' qs a r h num ws bs = quiet_tied σ _ log tk _ t refl refl (omega arith)
        (λ q z f. changed_some σ.sessions s' s q z (λ k y. IsSessionTied k y log (kept s.number tk r k)) (ap (session_at σ.sessions) num ∙ here) f
        (let m = t.sessions s.number s here in subst (λ (k : ℕ). IsSessionTied k s' log (kept s.number tk r k)) (sym num) (record { watching = λ u. ap (λ w. level_in w u) ws ∙ m.watching u; items = ap (λ xs. xs ++ s'.outbox.items) (sym (none_taken tk s.number r h s.number)) ∙ ap (λ xs. tk s.number ++ xs) bs ∙ m.items }))
        (λ k d y g. subst (λ (xs : List Item). IsSessionTied k y log xs) (none_taken tk s.number r h k) (t.sessions k y g)))
        (λ q g. none_taken tk s.number r h q)

    made_tied : (transaction : Transaction) (x : Move) (r : Reply) → item_of r ≡ [] → Ties s.number log tk (make σ s transaction x r)
    made_tied transaction x r h = same_tied (with_transaction s _) σ.queue σ.next_age _ (said_item (mid_of σ transaction) x r h) refl refl refl

    decided_tied : (transaction : Transaction) (o : Operation) (a : Answer) → Ties s.number log tk (by_lock_answer σ s transaction o a)
    decided_tied transaction o Granted = made_tied transaction (Do o) reply.Done refl
    decided_tied transaction o Wait = quiet_tied σ _ log tk _ t refl refl (omega arith) (λ q z f. subst (λ (xs : List Item). IsSessionTied q z log xs) (none_taken tk s.number reply.Waiting refl q) (t.sessions q z f)) (λ q g. none_taken tk s.number reply.Waiting refl q)
    decided_tied transaction o Die = same_tied (with_transaction s _) σ.queue σ.next_age reply.Restart refl refl refl refl

    within_tied : (transaction : Transaction) (o : Operation) (b : Bool) → Ties s.number log tk (within_limit σ s transaction o b)
    within_tied transaction o false = nothing_tied s.number (reply.SystemLimit limit.Operations) refl
    within_tied transaction o true = decided_tied transaction o _

    operate_tied : (o : Operation) (x : Option Transaction) → Ties s.number log tk (operate σ s o x)
    operate_tied o None = nothing_tied s.number (reply.NoTransaction) refl
    operate_tied o (Some transaction) = within_tied transaction o _

    opened_tied : (b : Bool) → Ties s.number log tk (open_level_1 σ s b)
    opened_tied false = nothing_tied s.number (reply.SystemLimit limit.Ages) refl
    opened_tied true = same_tied (with_transaction s _) σ.queue (σ.next_age + 1) (reply.Tid σ.next_age) refl refl refl refl

    nested_tied : (transaction : Transaction) (a b : Bool) → Ties s.number log tk (open_child σ s transaction a b)
    nested_tied transaction false b = nothing_tied s.number (reply.SystemLimit limit.Nesting) refl
    nested_tied transaction true false = nothing_tied s.number (reply.SystemLimit limit.Operations) refl
    nested_tied transaction true true = made_tied transaction Open reply.Done refl

    begin_tied : (x : Option Transaction) → Ties s.number log tk (begin σ s x)
    begin_tied None = opened_tied _
    begin_tied (Some transaction) = nested_tied transaction _ _

    one_shot_tied : (x : Option Transaction) → Ties s.number log tk (one_shot σ s x)
    one_shot_tied None = opened_tied _
    one_shot_tied (Some transaction) = nothing_tied s.number (reply.InTransaction) refl

    -- taking the first item moves it from the row to the items taken
    give_tied : ((q : ℕ) → σ.greatest < q → q ≢ s.number) → (xs : List Item) (l : Option ℕ) → s.outbox.items ≡ xs → Ties s.number log tk (give σ s xs l)
    give_tied above (x ∷ xs) l is = quiet_tied σ _ log tk _ t refl refl (omega arith)
        (λ q z f. changed_some σ.sessions _ s q z (λ k y. IsSessionTied k y log (kept s.number tk (reply.Taken x) k)) here f
        (let m = t.sessions s.number s here in record { watching = m.watching; items = ap (λ b. (tk s.number ++ (if b then x ∷ [] else [])) ++ xs) (itself s.number) ∙ append_assoc (tk s.number) (x ∷ []) xs ∙ ap (λ ys. tk s.number ++ ys) (sym is) ∙ m.items })
        (λ k d y g. subst (λ (ys : List Item). IsSessionTied k y log ys) (same k d) (t.sessions k y g)))
        (λ q g. same q (above q g))
      where
        same : (k : ℕ) → k ≢ s.number → tk k ≡ kept s.number tk (reply.Taken x) k
        same k d = sym (append-nil (tk k)) ∙ ap (λ b. tk k ++ (if b then x ∷ [] else [])) (sym (differs' k s.number d))
    give_tied above [] None is = nothing_tied s.number (reply.Empty) refl
    give_tied above [] (Some n) is = same_tied _ σ.queue σ.next_age (reply.Overflow n) refl refl refl refl

  module _ (s : Session) (here : session_at σ.sessions s.number ≡ Some s) where
    retried_tied : (transaction : Transaction) (o : Operation) (b : Bool) → Ties s.number log tk (try_again σ s transaction o b)
    retried_tied transaction o false = nothing_tied s.number (reply.Waiting) refl
    retried_tied transaction o true = made_again
      where
        made_again : Ties s.number log tk (make (with_queue σ (without_request σ.queue s.number)) s transaction (Do o) reply.Done)
        made_again = same_tied s here (with_transaction s _) (without_request σ.queue s.number) σ.next_age _ (said_item (mid_of σ transaction) (Do o) reply.Done refl) refl refl refl

    retry_tx_tied : (o : Operation) (x : Option Transaction) → Ties s.number log tk (retry_in σ s o x)
    retry_tx_tied o None = nothing_tied s.number (reply.NotWaiting) refl
    retry_tx_tied o (Some transaction) = retried_tied transaction o _

    retry_tied : (q : Option Queued) → Ties s.number log tk (retry σ s q)
    retry_tied None = nothing_tied s.number (reply.NotWaiting) refl
    retry_tied (Some q) = retry_tx_tied q.operation s.transaction

    abort_tied : (r : Term) (x : Option Transaction) → Ties s.number log tk (abort σ s r x)
    abort_tied r None = nothing_tied s.number (reply.NoTransaction) refl
    abort_tied r (Some transaction) = same_tied s here (with_transaction s _) (without_request σ.queue s.number) σ.next_age (reply.UserAbort r) refl refl refl refl

    module _ (sound : IsSound σ) where
      low : (q : ℕ) → σ.greatest < q → q ≢ s.number
      low q h e = let j = sound.joined s.number s here in omega arith

      -- a marker into the session's own post
      mark_tied : (over : Bool) (ws : List Watch) (x : Item) (e : Entry)
          → σ.tables ≡ catalog_after σ.tables e → σ.commits ≡ count_after σ.commits e → IsRight σ.tables σ.commits e
          → ((u : List ℕ) → level_in ws u ≡ level_after s.number u (level_in s.watching u) e) → expected_items s.number log e ≡ x ∷ []
          → ((q : ℕ) → q ≢ s.number → ((u : List ℕ) (b : Option Level) → level_after q u b e ≡ b) × (expected_items q log e ≡ []))
          → Ties s.number log tk (put_marker σ over s ws x e)
      mark_tied true ws x e ts cs right wat ow others = same_tied s here _ σ.queue σ.next_age reply.OutboxFull refl refl refl refl
      mark_tied false ws x e ts cs right wat ow others = entry_tied σ _ log tk _ e t ts cs refl right
          (λ q r f. changed_some σ.sessions _ s q r (λ k y. (z : Session) × (session_at σ.sessions k ≡ Some z) × Moves k log e z y) here f
          (s, here, record { watching = wat; items = ap (λ xs. s.outbox.items ++ xs) (sym ow) })
          (λ k d z g. (z, g, record { watching = λ u. sym ((others k d).0 u (level_in z.watching u)); items = sym (append-nil z.outbox.items) ∙ ap (λ xs. z.outbox.items ++ xs) (sym (others k d).1) })))
          (λ q h. (λ u. (others q (low q h)).0 u None, (others q (low q h)).1))
          (none_taken tk s.number reply.SubscribedHere refl)

      subscribe_tied : (over : List ℕ) (n : List ℕ) (l : Level) (dump : Bool) (r : Option Reply) → item_in r ≡ [] → Ties s.number log tk (subscribe_if σ over s n l dump r)
      subscribe_tied over n l dump (Some r) h = nothing_tied s.number r h
      subscribe_tied over n l dump None h = mark_tied _ _ _ (Subscribed s.number n l dump) refl refl tt
          (λ u. ap (λ b. if b && bytes_eq n u then Some l else level_in s.watching u) (sym (itself s.number)))
          ((λ i. if itself s.number i then Began n l (dump_of (sym t.tables i) n dump) ∷ [] else []))
          (λ q d. (λ u b. ap (λ k. if k && bytes_eq n u then Some l else b) (differs q s.number d), ap (λ k. if k then Began n l (dump_of (serial log) n dump) ∷ [] else []) (differs q s.number d)))

      unsubscribe_tied : (over : List ℕ) (n : List ℕ) (b : Bool) → Ties s.number log tk (unsubscribe_if σ over s n b)
      unsubscribe_tied over n false = nothing_tied s.number (reply.NotSubscribed n) refl
      unsubscribe_tied over n true = mark_tied _ _ _ (Unsubscribed s.number n) refl refl tt
          (λ u. left_level s.watching n u ∙ ap (λ b. level_if (not (b && bytes_eq n u)) (level_in s.watching u)) (sym (itself s.number)))
          (ap (λ b. if b then Ended n ending.Unsubscribed ∷ [] else []) (itself s.number))
          (λ q d. (λ u b. ap (λ k. level_if (not (k && bytes_eq n u)) b) (differs q s.number d), ap (λ k. if k then Ended n ending.Unsubscribed ∷ [] else []) (differs q s.number d)))

      -- THE COMMIT: each session is given what the entry owes it
      commit_tied : (over : List ℕ) (transaction : Transaction) → s.transaction ≡ Some transaction → Ties s.number log tk (commit_now σ over s transaction (events_now σ transaction))
      commit_tied over transaction is = entry_tied σ _ log tk _ e t refl refl refl (refl, right) sessions
          (λ q h. (λ u. kept_none (not (has_session over q)), fresh_expected q (t.fresh q h).watching))
          (none_taken tk s.number (reply.Atomic (σ.commits + 1)) refl)
        where
          e : Entry
          e = Committed (σ.commits + 1) s.number transaction.age transaction.moves transaction.told over

          tx_is : transaction_in (session_at σ.sessions s.number) ≡ Some transaction
          tx_is = ap transaction_in here ∙ is

          right : replies (start σ.tables transaction.age) transaction.moves ≡ transaction.told
          right = ap (λ (o : Option Transaction). replies (start σ.tables (age_in o)) (moves_in o)) (sym tx_is) ∙ sound.told s.number ∙ ap replies_in tx_is

          fresh_expected : (q : ℕ) → ((u : List ℕ) → in_force q log u ≡ None) → expected_items q log e ≡ []
          fresh_expected q h = (λ i. unless_over (has_session over q) (batch_for (λ u. h u i) (σ.commits + 1) (events (serial log) transaction.age (surviving_changes transaction.moves transaction.told))))
              ∙ ap (unless_over (has_session over q)) (batch_none (σ.commits + 1) (events (serial log) transaction.age (surviving_changes transaction.moves transaction.told))) ∙ unless_nil (has_session over q)

          f : Session → Session
          f x = after_put (σ.commits + 1) over (batch_to (σ.commits + 1) (events_now σ transaction) x) x

          moves : (q : ℕ) (x y : Session) → session_at σ.sessions q ≡ Some x → y.number ≡ q → y.watching ≡ x.watching → y.outbox ≡ x.outbox → Moves q log e x (after_put (σ.commits + 1) over (batch_to (σ.commits + 1) (events_now σ transaction) y) y)
          moves q x y g num ws outbox = given_moves q (σ.commits + 1) over _ log e x y num outbox
              (λ i. unless_over (has_session over q) (batch_for (λ u. (sym ((t.sessions q x g).watching u) ∙ ap (λ w. level_in w u) (sym ws)) i) (σ.commits + 1) (events (sym t.tables i) transaction.age (surviving_changes transaction.moves transaction.told))))
              (λ h u. ap (λ b. level_if (not b) (level_in x.watching u)) h)
              (λ h u. ap (λ w. level_in w u) ws ∙ ap (λ b. level_if (not b) (level_in x.watching u)) (sym h))

          sessions : (q : ℕ) (r : Session) → session_at (map f (with_changed σ.sessions (with_transaction s None))) q ≡ Some r → (x : Session) × (session_at σ.sessions q ≡ Some x) × Moves q log e x r
          sessions q r g =
              let m = mapped_some f _ r (sym (session_at-map f (λ x. given_number (σ.commits + 1) over _ x) (with_changed σ.sessions (with_transaction s None)) q) ∙ g) in
              let P : ℕ → Session → Type 0 = λ k y. (x : Session) × (session_at σ.sessions k ≡ Some x) × Moves k log e x (f y) in
              let got : P q m.0 = changed_some σ.sessions (with_transaction s None) s q m.0 P here m.1
              (s, here, moves s.number s (with_transaction s None) here refl refl refl)
              (λ k d y j. (y, j, moves k y y j (found σ.sessions y k j) refl refl)) in
              (got.0, got.1, subst (λ (z : Session). Moves q log e got.0 z) m.2 got.2)

      commit_at_tied : (over : List ℕ) (transaction : Transaction) (b : Bool) → s.transaction ≡ Some transaction → Ties s.number log tk (commit_at σ over s transaction b)
      commit_at_tied over transaction false is = made_tied s here transaction Close reply.Done refl
      commit_at_tied over transaction true is = commit_tied over transaction is

      commit_step_logged : (over : List ℕ) (o : Option Transaction) → s.transaction ≡ o → Ties s.number log tk (commit σ over s o)
      commit_step_logged over None is = nothing_tied s.number reply.NoTransaction refl
      commit_step_logged over (Some transaction) is = commit_at_tied over transaction _ is

  -- a schema command: those that watch a table that goes are given its end
  schema_tied : (n : ℕ) (over : List ℕ) (c : Schema) → schema_refusal σ.tables c ≡ None → Ties n log tk (schema_now σ over c)
  schema_tied n over c right = entry_tied σ _ log tk _ e t refl refl refl right sessions
      (λ q h. (λ u. kept_none (not (is_removed u (removed_table c) || has_session over q)), fresh_expected q (t.fresh q h).watching))
      (none_taken tk n reply.AtomicOk refl)
    where
      e : Entry
      e = Changed c over

      fresh_expected : (q : ℕ) → ((u : List ℕ) → in_force q log u ≡ None) → expected_items q log e ≡ []
      fresh_expected q h = (λ i. unless_over (has_session over q) (end_for (λ u. h u i) (removed_table c))) ∙ ap (unless_over (has_session over q)) (end_none (removed_table c)) ∙ unless_nil (has_session over q)

      f : Session → Session
      f x = after_put (σ.commits + 1) over (end_to (removed_table c) x) (without_deleted (removed_table c) x)

      or_true : (b : Bool) → (b || true) ≡ true
      or_true true = refl
      or_true false = refl

      moves : (q : ℕ) (x : Session) → session_at σ.sessions q ≡ Some x → Moves q log e x (f x)
      moves q x g = given_moves q (σ.commits + 1) over (end_to (removed_table c) x) log e x (without_deleted (removed_table c) x) ((unwatched_same (removed_table c) x).0 ∙ found σ.sessions x q g) (unwatched_same (removed_table c) x).1
          (λ i. unless_over (has_session over q) (end_for (λ u. (sym ((t.sessions q x g).watching u)) i) (removed_table c)))
          (λ h u. ap (λ b. level_if (not (is_removed u (removed_table c) || b)) (level_in x.watching u)) h ∙ ap (λ b. level_if (not b) (level_in x.watching u)) (or_true (is_removed u (removed_table c))))
          (λ h u. unwatched_level (removed_table c) x u ∙ ap (λ b. level_if (not b) (level_in x.watching u)) (sym (or-false (is_removed u (removed_table c)))) ∙ ap (λ b. level_if (not (is_removed u (removed_table c) || b)) (level_in x.watching u)) (sym h))

      sessions : (q : ℕ) (r : Session) → session_at (map f σ.sessions) q ≡ Some r → (x : Session) × (session_at σ.sessions q ≡ Some x) × Moves q log e x r
      sessions q r g =
          let m = mapped_some f _ r (sym (session_at-map f (λ x. given_number (σ.commits + 1) over (end_to (removed_table c) x) (without_deleted (removed_table c) x) ∙ (unwatched_same (removed_table c) x).0) σ.sessions q) ∙ g) in
          (m.0, m.1, subst (λ (z : Session). Moves q log e m.0 z) m.2 (moves q m.0 m.1))

  schema_if_tied : (n : ℕ) (over : List ℕ) (c : Schema) (o : Option Reply) (busy room : Bool) → schema_refusal σ.tables c ≡ o → item_in o ≡ [] → Ties n log tk (schema_if σ over c o busy room)
  schema_if_tied n over c (Some r) busy room h g = nothing_tied n r g
  schema_if_tied n over c None true room h g = nothing_tied n (reply.Locked (table_of_schema c)) refl
  schema_if_tied n over c None false false h g = nothing_tied n (reply.SystemLimit limit.Tables) refl
  schema_if_tied n over c None false true h g = schema_tied n over c h

  schema_step_logged : (n : ℕ) (over : List ℕ) (s : Session) (c : Schema) (o : Option Transaction) → Ties n log tk (schema σ over c o)
  schema_step_logged n over s c (Some transaction) = nothing_tied n reply.InTransaction refl
  schema_step_logged n over s c None = schema_if_tied n over c (schema_refusal σ.tables c) _ _ refl (refusal_item σ.tables c)

  module _ (sound : IsSound σ) where
    do_tied : (over : List ℕ) (s : Session) (c : Command) → session_at σ.sessions s.number ≡ Some s → Ties s.number log tk (do_command σ over s c)
    do_tied over s (command.Schema c) here = schema_step_logged s.number over s c s.transaction
    do_tied over s (command.TableInfo n i) here = nothing_tied s.number (table_info n i (find σ.tables n)) (info_item n i (find σ.tables n))
    do_tied over s command.Begin here = begin_tied s here s.transaction
    do_tied over s command.Commit here = commit_step_logged s here sound over s.transaction refl
    do_tied over s (command.Abort r) here = abort_tied s here r s.transaction
    do_tied over s (command.Do o) here = operate_tied s here o s.transaction
    do_tied over s (command.Subscribe n l dump) here = subscribe_tied s here sound over n l dump (subscribe_refusal σ s n) (sub_item σ s n)
    do_tied over s (command.Unsubscribe n l) here = unsubscribe_tied s here sound over n (is_at (level_in s.watching n) l)
    do_tied over s (command.OneShot parts retries) here = one_shot_tied s here s.transaction

    command_if_tied : (over : List ℕ) (s : Session) (c : Command) (b : Bool) → session_at σ.sessions s.number ≡ Some s → Ties s.number log tk (command_if σ over s c b)
    command_if_tied over s c true here = nothing_tied s.number reply.WaitingNow refl
    command_if_tied over s c false here = do_tied over s c here

    take_tied : (s : Session) (c : Option ℕ) → session_at σ.sessions s.number ≡ Some s → Ties s.number log tk (give σ s (items_to_take s.outbox c) s.overflow)
    take_tied s (Some c) here = give_tied s here (low s here sound) s.outbox.items s.overflow refl
    take_tied s None here = none_there s.overflow
      where
        none_there : (l : Option ℕ) → Ties s.number log tk (give σ s [] l)
        none_there None = nothing_tied s.number reply.Empty refl
        none_there (Some n) = same_tied s here _ σ.queue σ.next_age (reply.Overflow n) refl refl refl refl

    leave_tied : (s : Session) → Ties s.number log tk (leave σ s)
    leave_tied s = quiet_tied σ _ log tk _ t refl refl (omega arith)
        (λ q z f. cases q z (q == s.number) (sym (session_at-without σ.sessions s.number q) ∙ f))
        (λ q g. none_taken tk s.number reply.Done refl q)
      where
        cases : (q : ℕ) (z : Session) (b : Bool) → (if b then None else session_at σ.sessions q) ≡ Some z → IsSessionTied q z log (kept s.number tk reply.Done q)
        cases q z true f = cc
        cases q z false f = subst (λ (xs : List Item). IsSessionTied q z log xs) (none_taken tk s.number reply.Done refl q) (t.sessions q z f)

    seated_tied : (over : List ℕ) (s : Session) (a : Ask) → session_at σ.sessions s.number ≡ Some s → Ties s.number log tk (step_of_joined σ over s a)
    seated_tied over s (Join b) here = nothing_tied s.number reply.BadSession refl
    seated_tied over s Leave here = leave_tied s
    seated_tied over s Retry here = retry_tied s here _
    seated_tied over s Take here = take_tied s s.outbox.capacity here
    seated_tied over s (DoCommand c) here = command_if_tied over s c _ here

    join_tied : (n : ℕ) (b : Outbox) (x y : Bool) → nat_lt σ.greatest n ≡ x → session_at σ.sessions n ≡ None → b.items ≡ [] → Ties n log tk (join_if σ n b x y)
    join_tied n b false y e none empty = nothing_tied n reply.BadSession refl
    join_tied n b true false e none empty = nothing_tied n (reply.SystemLimit limit.Sessions) refl
    join_tied n b true true e none empty =
        let above : σ.greatest < n = grind (arith, nat_tests) in
        let new = t.fresh n above in
        quiet_tied σ _ log tk _ t refl refl (omega arith)
        (λ q z f. cases q z new (q == n) refl (sym (session_at-push σ.sessions (fresh n b) q none) ∙ f))
        (λ q g. none_taken tk n reply.Done refl q)
      where
        cases : (q : ℕ) (z : Session) → IsNew n log (tk n) → (c : Bool) → (q == n) ≡ c → (if c then Some (fresh n b) else session_at σ.sessions q) ≡ Some z → IsSessionTied q z log (kept n tk reply.Done q)
        cases q z new true g f = let h : fresh n b ≡ z = cc in
            subst (λ (k : ℕ). IsSessionTied k z log (kept n tk reply.Done k)) (sym (eq_true q n g)) (subst (λ (y : Session). IsSessionTied n y log (kept n tk reply.Done n)) h
            (record { watching = λ u. sym (new.watching u); items = ap (λ xs. kept n tk reply.Done n ++ xs) empty ∙ append-nil _ ∙ sym (none_taken tk n reply.Done refl n) ∙ new.taken_none ∙ sym new.expected }))
        cases q z new false g f = subst (λ (xs : List Item). IsSessionTied q z log xs) (none_taken tk n reply.Done refl q) (t.sessions q z f)

    unseated_tied : (n : ℕ) (a : Ask) → session_at σ.sessions n ≡ None → JoinsEmpty a → Ties n log tk (step_of_stranger σ n a)
    unseated_tied n (Join b) none empty = join_tied n b _ _ refl none empty
    unseated_tied n Leave none empty = nothing_tied n reply.BadSession refl
    unseated_tied n Retry none empty = nothing_tied n reply.BadSession refl
    unseated_tied n Take none empty = nothing_tied n reply.BadSession refl
    unseated_tied n (DoCommand c) none empty = nothing_tied n reply.BadSession refl

    by_session_tied : (over : List ℕ) (n : ℕ) (a : Ask) (o : Option Session) → session_at σ.sessions n ≡ o → JoinsEmpty a → Ties n log tk (step_of σ over n a o)
    by_session_tied over n a None e empty = unseated_tied n a e empty
    by_session_tied over n a (Some s) e empty = subst (λ (k : ℕ). Ties k log tk (step_of_joined σ over s a)) (found σ.sessions s n e) (seated_tied over s a (ap (session_at σ.sessions) (found σ.sessions s n e) ∙ e))

-- one step
pub step_logged : (σ : State) (log : List Entry) (tk : ℕ → List Item) (over : List ℕ) (n : ℕ) (a : Ask) → IsSound σ → JoinsEmpty a → IsLogged σ log tk
    → IsLogged (outcome σ over n a).state (log ++ entries (outcome σ over n a).entry) (λ m. tk m ++ delivered_by m n (outcome σ over n a).reply)
unfolding outcome
step_logged σ log tk over n a sound empty t = by_session_tied σ log tk t sound over n a (session_at σ.sessions n) refl empty
