-- What commands are answered, and the parts after them.
use Rattle.std.proofs.Common.{◌≡◌, ℕ, zero, suc, ◌+◌, ◌<◌, ◌≤◌, List, [], ◌∷◌, ◌++◌, Bool, true, false, ◌&&◌, not, refl, sym, ap, ◌∙◌, subst, arith, length, Option, Some, None, get_or, set}
use Rattle.std.specs.Prelude.{◌==◌, is_some, nat_lt, if◌then◌else◌, IfSome, IsOk, Result, Ok, Err, map, option_map}
use Rattle.std.specs.List.{list_any}
use Rattle.std.specs.Option.{option_copied}
use Rattle.std.specs.Borrow.{Bor}
use Rattle.tab_term.specs.declared.term.Term.{Term}
use Rattle.std.proofs.lemmas.Bool.Decides.{nat_tests}
use Rattle.tab_model.specs.declared.data.Command.{Command}
use Rattle.tab_model.specs.declared.data.Command.TheVariants as command
use Rattle.tab_model.specs.declared.data.Entry.TheVariants as entry
use Rattle.tab_model.specs.declared.data.InfoItem.{InfoItem}
use Rattle.tab_model.specs.declared.data.Limit.TheVariants as limit
use Rattle.tab_model.specs.declared.data.Reply.{Reply}
use Rattle.tab_model.specs.declared.data.Reply.TheVariants as reply
use Rattle.tab_model.specs.declared.data.Schema.{Schema}
use Rattle.tab_model.specs.Ages.{Ages, Owned, all_of, forget}
use Rattle.tab_model.specs.Events.{change_all, surviving_changes}
use Rattle.tab_model.specs.Schemas.{table_of_schema, schema_refusal, schema_effect}
use Rattle.tab_model.specs.Catalogs.{Catalog, find}
use Rattle.tab_model.specs.State as plain
use Rattle.tab_model.specs.State.{Outbox, Session, State, session_at, moves_at, is_waiting, is_busy, is_in, locks_held_in, locks_queued_in}
use Rattle.tab_model.specs.declared.ask.Ask.TheVariants.{Join, Do as DoCommand}
use Rattle.tab_model.specs.Outcome.{Ask, outcome, step_of_stranger, step_without_entry, is_empty, first_of, refusal_if, schema_refusals, has_room, fresh, table_info, is_abort}
use Rattle.tab_model.proofs.StepCases.{join_if, command_if}
use Rattle.tab_model.proofs.ReachedWaits.{held_pushed}
use Rattle.tab_model.proofs.SessionLists.{eq_true, itself}
use Rattle.tab_txstore.proofs.FitsLemmas.{updates_survive}
use Rattle.tab_core.specs.declared.transaction.Transaction as kept
use Rattle.tab_core.specs.declared.queue.Request as request
use Rattle.tab_core.specs.declared.step.Stepped.{Stepped}
use Rattle.tab_core.specs.Steps.{StepsTo}
use Rattle.tab_core.specs.Works.{forgotten_if, committed}
use Rattle.tab_core.specs.Outermost.{after_commit, Commits}
use Rattle.tab_core.specs.Redefining.{Redefines, RedefinesBy}
use Rattle.tab_core.specs.Kept.{opens, count_open, Agree, IsKept}
use Rattle.tab_core.proofs.HeldLocks.{busies}
use Rattle.tab_core.proofs.Places.{at_of}
use Rattle.tab_core.proofs.Keeping as keep
use Rattle.tab_core.proofs.Keeping.{ended, with_transaction, Leaves, leaves, kept_step, the_session}
use Rattle.tab_core.proofs.CommitLemmas as committing
use Rattle.tab_subs.specs.Subscribers as subs
use Rattle.tab_subs.specs.Subscribers.{AllBelow, IsHeldAt, at, nobody, numbers}
use Rattle.tab_core.specs.Joined.{Subscriber}
use Rattle.tab_core.specs.Parts.{Parts, queued_of, session_of, state_of, transaction_in, transaction_of}

pub without_entry : (σ : State) (r : Reply) (s : Stepped) → s ≡ record { reply = r; entry = None } → step_without_entry σ r ≡ record { state = σ; reply = s.reply; entry = s.entry }
without_entry σ r s e = λ j. record { state = σ; reply = Stepped.reply (sym e j); entry = Stepped.entry (sym e j) }

pub here : (m : Parts) (n i : ℕ) → IsHeldAt m.sessions n i → session_at (map session_of m.sessions) n ≡ Some (session_of (the_session m n i))
here m n i there = at_of m.sessions n ∙ ap (option_map session_of) (there.slot nobody)

pub above_zero : (d : ℕ) → 0 < d → (d == 0) ≡ false
above_zero d h = grind (arith, nat_tests)

pub zero_is : (d : ℕ) → d ≤ 0 → (d == 0) ≡ true
zero_is d h = grind (arith, nat_tests)

pub not_refused : {T E : Type 0} (r : Result T E) (e : E) → r ≡ Err e → IsOk r → ⊥
not_refused (Ok x) e h k = cc
not_refused (Err f) e h k = cc

-- ---- an outermost commit

module _ (m : Parts) (n i : ℕ) (k : IsKept m) (there : IsHeldAt m.sessions n i) (t : kept.Transaction) (open_t : (the_session m n i).transaction ≡ Some t) where
  abbrev s : Subscriber
  s = the_session m n i

  pub no_updates : is_empty (moves_at (state_of m) n) ≡ true → t.store.levels.now.updates ≡ []
  no_updates h =
      let none : t.store.moves ≡ [] = empty_is t.store.moves (ap (λ (o : Option plain.Transaction). is_empty (plain.moves_in o)) (sym (keep.mine m n i k there t open_t)) ∙ h) in
      updates_survive t.store m.catalog (keep.fit m n i k there t open_t) ∙ ap (λ xs. surviving_changes xs t.store.told) none
    where
      empty_is : {A : Type 0} (xs : List A) → is_empty xs ≡ true → xs ≡ []
      empty_is [] g = refl
      empty_is (x ∷ xs) g = cc

  pub commit_exit : is_waiting (state_of m) n ≡ false → (before y : Option kept.Transaction) (x : Stepped) (m' : Parts) → before ≡ s.transaction → y ≡ None → IfSome before (λ u. x ≡ committed (m.commits + 1) n u)
      → m'.catalog ≡ change_all m.catalog t.store.levels.now.updates → m'.sessions ≡ set m.sessions i (with_transaction s y) → m'.queue ≡ m.queue → m'.begun ≡ m.begun → m'.commits ≡ m.commits + 1 → m'.greatest ≡ m.greatest → m'.limits ≡ m.limits → m'.ages ≡ forgotten_if m.ages before
      → Commits (state_of m) n (transaction_of t) x (state_of m') × Agree m'
  commit_exit idle before y x m' same over told catalog sessions queue begun commits greatest limits ages = (committed_as, agrees)
    where
      told_is : x ≡ committed (m.commits + 1) n t
      told_is = keep.if_some (λ u. x ≡ committed (m.commits + 1) n u) before t (same ∙ open_t) told

      sessions_are : m'.sessions ≡ set m.sessions i (ended s)
      sessions_are = sessions ∙ ap (λ z. set m.sessions i (with_transaction s z)) over

      state : state_of m' ≡ (let τ : State = record (state_of m) { tables = m'.catalog; sessions = map session_of (set m.sessions i (ended s)); commits = m.commits + 1 } in τ)
      state = λ j. record {
        tables = m'.catalog;
        sessions = map session_of (sessions_are j);
        queue = map queued_of (queue_items j);
        next_age = begun j + 1;
        commits = commits j;
        greatest = greatest j;
        limits = limits j;
      }
        where
          queue_items : m'.queue.items ≡ m.queue.items
          queue_items = ap (λ (qs : Rattle.std.specs.Global.Vec request.Request). qs.items) queue

      committed_as : Commits (state_of m) n (transaction_of t) x (state_of m')
      committed_as z h = (
        state ∙ committing.commits m n i k there t open_t m'.catalog catalog ∙ ap (λ (q : Session). after_commit (state_of m) q (transaction_of t)) is_z,
        told_is ∙ ap (λ c. committed (m.commits + 1) c t) (sym (keep.is m n i k there) ∙ ap (λ (q : Session). q.number) is_z),
      )
        where
          one : Some (session_of s) ≡ Some z → session_of s ≡ z
          one q = cc

          is_z : session_of s ≡ z
          is_z = one (sym (keep.here m n i k there) ∙ h)

      ages_are : m'.ages ≡ forget m.ages t.age
      ages_are = ages ∙ ap (forgotten_if m.ages) (same ∙ open_t)

      agrees : Agree m'
      agrees = committing.commit_agrees m n i k there t open_t m' catalog sessions_are limits begun commits (ap (λ (g : Ages). g.held) ages_are)
          (ap (λ (g : Ages). g.queue) ages_are ∙ keep.not_queued m n i k there t open_t idle ∙ k.agree.queue ∙ ap (λ (qs : Rattle.std.specs.Global.Vec request.Request). locks_queued_in (map queued_of qs.items)) (sym queue))

  pub commits_fit : m.commits + 1 < 18446744073709551616
  commits_fit =
      let c = keep.counts' m n i k there s refl in
      let d = k.agree.counted in
      let o : opens s.transaction ≡ 1 = ap opens open_t in
      let p = opens_in m.sessions i s there.within (keep.at_place m n i there) in
      let a = k.agree.ages in let w = k.agree.word in omega (arith, d, o, p, a, w)
    where
      opens_in : (ss : List Subscriber) (j : ℕ) (x : Subscriber) → j < length ss → x ≡ get_or ss j x → opens x.transaction ≤ count_open ss
      opens_in [] j x lt h = absurd (omega arith)
      opens_in (y ∷ ss) zero x lt h = let q : opens x.transaction ≡ opens y.transaction = ap (λ (v : Subscriber). opens v.transaction) h in omega (arith, q)
      opens_in (y ∷ ss) (suc j) x lt h = let q = opens_in ss j x (omega arith) h in omega (arith, q)

-- ---- joining

nowhere : (m : Parts) (n : ℕ) → at m.sessions n ≡ None → session_at (map session_of m.sessions) n ≡ None
nowhere m n stranger = at_of m.sessions n ∙ ap (option_map session_of) stranger

module _ (m : Parts) (n : ℕ) (b : Outbox) (stranger : at m.sessions n ≡ None) where
  pub joins_if : (above room : Bool) → nat_lt m.greatest n ≡ above → nat_lt (length (map session_of m.sessions)) m.limits.sessions ≡ room → outcome (state_of m) [] n (Join b) ≡ join_if (state_of m) n b above room
  joins_if above room h g = keep.strange (state_of m) n (Join b) (nowhere m n stranger) ∙ (λ j. join_if (state_of m) n b (h j) (g j))

  pub as_many : length (map session_of m.sessions) ≡ length m.sessions
  as_many = mapped_many m.sessions
    where
      mapped_many : (ss : List Subscriber) → length (map session_of ss) ≡ length ss
      mapped_many [] = refl
      mapped_many (x ∷ ss) = ap suc (mapped_many ss)

  pub joins_none : nat_lt m.greatest n ≡ true → nat_lt (length m.sessions) m.limits.sessions ≡ false → outcome (state_of m) [] n (Join b) ≡ step_without_entry (state_of m) (reply.SystemLimit limit.Sessions)
  joins_none h g = joins_if true false h (ap (λ l. nat_lt l m.limits.sessions) as_many ∙ g)

-- whose number is not above all that joined, whether it has joined or not
pub joins_old : (m : Parts) (n : ℕ) (b : Outbox) → nat_lt m.greatest n ≡ false → outcome (state_of m) [] n (Join b) ≡ step_without_entry (state_of m) reply.BadSession
joins_old m n b h = by (at m.sessions n) refl
  where
    by : (o : Option Subscriber) → at m.sessions n ≡ o → outcome (state_of m) [] n (Join b) ≡ step_without_entry (state_of m) reply.BadSession
    by None e = joins_if m n b e false (nat_lt (length (map session_of m.sessions)) m.limits.sessions) h refl
    by (Some s) e = keep.sits (state_of m) n (session_of s) (Join b) (at_of m.sessions n ∙ ap (option_map session_of) e)

-- whose number is above all that joined has not joined
pub newcomer : (m : Parts) (n : ℕ) → IsKept m → nat_lt m.greatest n ≡ true → at m.sessions n ≡ None
newcomer m n k h = by (at m.sessions n) refl
  where
    above : (a b : ℕ) → nat_lt a b ≡ true → b ≤ a → ⊥
    above a b q le = let less : a < b = grind (arith, nat_tests) in omega (arith, less, le)

    by : (o : Option Subscriber) → at m.sessions n ≡ o → o ≡ None
    by None e = refl
    by (Some s) e = absurd (above m.greatest n h (k.sound.joined n (session_of s) (at_of m.sessions n ∙ ap (option_map session_of) e)))

-- nor is its number among those that have
pub all_below : (m : Parts) (n : ℕ) → IsKept m → nat_lt m.greatest n ≡ true → AllBelow n (numbers m.sessions)
all_below m n k h = under m.sessions (λ q s e. k.sound.joined q (session_of s) (at_of m.sessions q ∙ ap (option_map session_of) e)) k.sound.distinct
  where
    less : m.greatest < n
    less = grind (arith, nat_tests)

    under : (ss : List Subscriber) → ((q : ℕ) (s : Subscriber) → at ss q ≡ Some s → q ≤ m.greatest) → plain.AreDistinct (map session_of ss) → AllBelow n (numbers ss)
    under [] f d = tt
    under (x ∷ ss) f d = (
      (let le : x.number ≤ m.greatest = f x.number x (ap (λ b. if b then Some x else at ss x.number) (itself x.number)) in omega (arith, le, less)),
      under ss (λ q s g. f q s (ap (λ b. if b then Some x else at ss q) (apart q s g) ∙ g)) d.1,
    )
      where
        apart : (q : ℕ) (s : Subscriber) → at ss q ≡ Some s → (x.number == q) ≡ false
        apart q s g = no (x.number == q) refl
          where
            none_some : None ≡ Some (session_of s) → ⊥
            none_some e = cc

            no : (b : Bool) → (x.number == q) ≡ b → b ≡ false
            no false e = refl
            no true e = absurd (none_some (sym d.0 ∙ ap (plain.session_at (map session_of ss)) (eq_true x.number q e) ∙ at_of ss q ∙ ap (option_map session_of) g))

pub join_exit : (m : Parts) (n : ℕ) (b : Outbox) → IsKept m → (stranger : at m.sessions n ≡ None) → nat_lt m.greatest n ≡ true → nat_lt (length m.sessions) m.limits.sessions ≡ true → (ss : List Subscriber) → ss ≡ m.sessions ++ subs.fresh n b ∷ []
    → Leaves m (record m { sessions = ss; greatest = n }) n (Join b) reply.Done
join_exit m n b k stranger new room ss is = (e, kept_step m joined n (Join b) reply.Done None k agrees e)
  where
    -- the machine with one more session
    joined : Parts
    joined = record m { sessions = ss; greatest = n }

    pushed : (xs : List Subscriber) → map session_of (xs ++ subs.fresh n b ∷ []) ≡ map session_of xs ++ fresh n b ∷ []
    pushed [] = refl
    pushed (x ∷ xs) = ap (λ ys. session_of x ∷ ys) (pushed xs)

    e : outcome (state_of m) [] n (Join b) ≡ step_without_entry (state_of joined) reply.Done
    e = joins_if m n b stranger true true new (ap (λ l. nat_lt l m.limits.sessions) (as_many m n b stranger) ∙ room)
        ∙ ap (λ xs. let τ : State = record (state_of m) { sessions = xs; greatest = n } in step_without_entry τ reply.Done) (sym (pushed m.sessions) ∙ ap (map session_of) (sym is))

    last : (xs : List Subscriber) (q : ℕ) (t : kept.Transaction) → transaction_in (at (xs ++ subs.fresh n b ∷ []) q) ≡ Some t → transaction_in (at xs q) ≡ Some t
    last [] q t h = by (n == q) h
      where
        by : (c : Bool) → transaction_in (if c then Some (subs.fresh n b) else None) ≡ Some t → transaction_in (at [] q) ≡ Some t
        by true g = cc
        by false g = cc
    last (x ∷ xs) q t h = by (x.number == q) h (last xs q t)
      where
        by : (c : Bool) → transaction_in (if c then Some x else at (xs ++ subs.fresh n b ∷ []) q) ≡ Some t → (transaction_in (at (xs ++ subs.fresh n b ∷ []) q) ≡ Some t → transaction_in (at xs q) ≡ Some t) → transaction_in (if c then Some x else at xs q) ≡ Some t
        by true g ih = g
        by false g ih = ih g

    count_last : (xs : List Subscriber) → count_open (xs ++ subs.fresh n b ∷ []) ≡ count_open xs
    count_last [] = refl
    count_last (x ∷ xs) = ap (λ c. opens x.transaction + c) (count_last xs)

    below : (a b : ℕ) → nat_lt a b ≡ true → a < b
    below a b h = grind (arith, nat_tests)

    one_longer : (xs : List Subscriber) → length (xs ++ subs.fresh n b ∷ []) ≡ length xs + 1
    one_longer [] = refl
    one_longer (x ∷ xs) = ap suc (one_longer xs) ∙ omega arith

    agrees : Agree joined
    agrees = record {
      held = λ p. k.agree.held p ∙ ap (list_any p) (sym (ap locks_held_in (ap (map session_of) is ∙ pushed m.sessions) ∙ held_pushed n b (map session_of m.sessions)));
      queue = k.agree.queue;
      fits = λ q t h. k.agree.fits q t (last m.sessions q t (ap (λ xs. transaction_in (at xs q)) (sym is) ∙ h));
      ages = k.agree.ages;
      counted = let c : count_open ss ≡ count_open m.sessions = ap count_open is ∙ count_last m.sessions in let d = k.agree.counted in omega (arith, c, d);
      word = k.agree.word;
      sessions = k.agree.sessions;
      room = let l : length ss ≡ length m.sessions + 1 = ap length is ∙ one_longer m.sessions in let lt = below (length m.sessions) m.limits.sessions room in let most = k.agree.sessions in omega (arith, l, lt, most);
    }

-- ---- schema commands

module _ (m : Parts) (k : IsKept m) (c : Schema) where
  decided : (r : Option Reply) (busy room : Bool) → schema_refusal m.catalog c ≡ r → is_busy (state_of m) (table_of_schema c) ≡ busy → has_room (state_of m) c ≡ room
      → first_of (schema_refusals (state_of m) c None) ≡ first_of (None ∷ r ∷ refusal_if busy (reply.Locked (table_of_schema c)) ∷ refusal_if (not room) (reply.SystemLimit limit.Tables) ∷ [])
  decided r busy room a b d = λ j. first_of (None ∷ a j ∷ refusal_if (b j) (reply.Locked (table_of_schema c)) ∷ refusal_if (not (d j)) (reply.SystemLimit limit.Tables) ∷ [])

  -- it is refused
  redefines_not : (r : Reply) → first_of (schema_refusals (state_of m) c None) ≡ Some r → (s : Stepped) → s ≡ record { reply = r; entry = None } → Redefines (state_of m) c s (state_of m)
  redefines_not r h s is = subst (λ o. RedefinesBy o (state_of m) c s (state_of m)) (sym h) (is, refl)

  pub schema_refused : (r : Reply) → schema_refusal m.catalog c ≡ Some r → (s : Stepped) → s ≡ record { reply = r; entry = None } → Redefines (state_of m) c s (state_of m)
  schema_refused r h = redefines_not r (decided (Some r) (is_busy (state_of m) (table_of_schema c)) (has_room (state_of m) c) h refl refl)

  module _ (free : schema_refusal m.catalog c ≡ None) where
    locked : (b : Bool) → list_any (is_in (table_of_schema c)) (all_of m.ages) ≡ b → is_busy (state_of m) (table_of_schema c) ≡ b
    locked b h =
        sym (ap (λ (q : List Owned). list_any (is_in (table_of_schema c)) (m.ages.held ++ q)) k.agree.queue ∙ busies (locks_held_in (map session_of m.sessions)) m.ages.held (locks_queued_in (map queued_of m.queue.items)) (table_of_schema c) k.agree.held) ∙ h

    pub schema_locked : list_any (is_in (table_of_schema c)) (all_of m.ages) ≡ true → (s : Stepped) → s ≡ record { reply = reply.Locked (table_of_schema c); entry = None } → Redefines (state_of m) c s (state_of m)
    schema_locked h = redefines_not (reply.Locked (table_of_schema c)) (decided None true (has_room (state_of m) c) free (locked true h) refl)

    pub schema_limit : list_any (is_in (table_of_schema c)) (all_of m.ages) ≡ false → has_room (state_of m) c ≡ false → (s : Stepped) → s ≡ record { reply = reply.SystemLimit limit.Tables; entry = None } → Redefines (state_of m) c s (state_of m)
    schema_limit h g = redefines_not (reply.SystemLimit limit.Tables) (decided None false false free (locked false h) g)

    pub schema_exit : list_any (is_in (table_of_schema c)) (all_of m.ages) ≡ false → has_room (state_of m) c ≡ true → (w : Catalog) → w ≡ schema_effect m.catalog c → (s : Stepped) → s ≡ record { reply = reply.AtomicOk; entry = Some (entry.Changed c []) }
        → Redefines (state_of m) c s (state_of (record m { catalog = w })) × Agree (record m { catalog = w })
    schema_exit h g w is s told = (
      subst (λ o. RedefinesBy o (state_of m) c s (state_of (record m { catalog = w }))) (sym (decided None false true free (locked false h) g)) (told, ap (λ v. state_of (record m { catalog = v })) is),
      committing.schema_agrees m (record m { catalog = w }) c k (locked false h) is refl refl refl refl refl refl,
    )

-- ---- what is told of a table

pub info_here : (m : Parts) (n i : ℕ) → IsHeldAt m.sessions n i → is_waiting (state_of m) n ≡ false → (name : List ℕ) (item : InfoItem) (r : Reply) → r ≡ table_info name item (find m.catalog name)
    → outcome (state_of m) [] n (DoCommand (command.TableInfo name item)) ≡ step_without_entry (state_of m) r
info_here m n i there idle name item r h = keep.idles (state_of m) n (session_of (the_session m n i)) (command.TableInfo name item) (here m n i there) (there.number nobody) idle ∙ ap (step_without_entry (state_of m)) (sym h)

-- ---- who has not joined, and who waits

pub unseated : (m : Parts) (n : ℕ) → at m.sessions n ≡ None → (a : Ask) → step_of_stranger (state_of m) n a ≡ step_without_entry (state_of m) reply.BadSession → (s : Stepped) → s ≡ record { reply = reply.BadSession; entry = None } → StepsTo (state_of m) n a s (state_of m)
unseated m n stranger a told s is = keep.strange (state_of m) n a (nowhere m n stranger) ∙ told ∙ without_entry (state_of m) reply.BadSession s is

no_abort : (x : Command) → ((r : Term) → x ≡ command.Abort r → ⊥) → is_abort x ≡ false
no_abort (command.Schema c) h = refl
no_abort (command.TableInfo t i) h = refl
no_abort command.Begin h = refl
no_abort command.Commit h = refl
no_abort (command.Abort r) h = absurd (h r refl)
no_abort (command.Do o) h = refl
no_abort (command.Subscribe t l d) h = refl
no_abort (command.Unsubscribe t l) h = refl
no_abort (command.OneShot parts retries) h = refl

pub waiting_default : (m : Parts) (n i : ℕ) → IsHeldAt m.sessions n i → is_waiting (state_of m) n ≡ true → (x : Command) → ((r : Term) → x ≡ command.Abort r → ⊥) → outcome (state_of m) [] n (DoCommand x) ≡ step_without_entry (state_of m) reply.WaitingNow
waiting_default m n i there waits x h =
    keep.sits (state_of m) n (session_of (the_session m n i)) (DoCommand x) (here m n i there)
    ∙ (λ j. command_if (state_of m) [] (session_of (the_session m n i)) x ((ap (is_waiting (state_of m)) (there.number nobody) ∙ waits) j && not (no_abort x h j)))

pub waits_as : (m : Parts) (n : ℕ) (ws : List request.Request) (o : Option (Bor request.Request)) → ws ≡ m.queue.items → plain.request_in (map queued_of ws) n ≡ option_map queued_of (option_copied o) → is_some o ≡ true → is_waiting (state_of m) n ≡ true
waits_as m n ws o is h waits = ap (λ xs. is_some (plain.request_in (map queued_of xs) n)) (sym is) ∙ ap is_some h ∙ by o waits
  where
    by : (x : Option (Bor request.Request)) → is_some x ≡ true → is_some (option_map queued_of (option_copied x)) ≡ true
    by None g = cc
    by (Some y) g = refl
