-- Takes, and markers that are put into a session's post or refused by it.
use Rattle.std.proofs.Common.{◌≡◌, ℕ, List, [], ◌∷◌, Bool, true, false, ◌&&◌, not, refl, sym, ap, ◌∙◌, subst, length, Option, Some, None}
use Rattle.std.proofs.Common.{Bor}
use Rattle.std.specs.Option.{option_copied}
use Rattle.std.specs.Prelude.{◌==◌, ◌||◌, if◌then◌else◌, is_some, nat_le, IfSome, MatchOption, map, option_map}
use Rattle.tab_model.specs.declared.data.Entry.{Entry}
use Rattle.tab_model.specs.declared.data.Entry.TheVariants.{Subscribed, Unsubscribed}
use Rattle.tab_model.specs.declared.data.Item.{Item}
use Rattle.tab_model.specs.declared.data.Item.TheVariants.{Began, Ended}
use Rattle.tab_model.specs.declared.data.Ending.TheVariants as ending
use Rattle.tab_model.specs.declared.data.Level.{Level}
use Rattle.tab_model.specs.declared.data.Reply.{Reply}
use Rattle.tab_model.specs.declared.data.Reply.TheVariants as reply
use Rattle.tab_model.specs.declared.data.Command.{Command}
use Rattle.tab_model.specs.declared.data.Command.TheVariants as command
use Rattle.tab_model.specs.Log.{has_session}
use Rattle.tab_model.specs.Slices.{dump_of}
use Rattle.tab_model.specs.State.{Outbox, Watch, Session, State, session_at, is_waiting, level_in, without_watch}
use Rattle.tab_model.specs.declared.ask.Ask.TheVariants.{Take, Do as DoCommand}
use Rattle.tab_model.specs.Outcome.{Ask, Outcome, outcome, step_without_entry, with_items, with_refusal, items_to_take, give, put_marker, do_command, refusal_if, subscribe_refusal, unsubscribe_refusal, is_at, is_abort}
use Rattle.tab_model.specs.Run.{Allowed, IsSplitByOverflow, put_ask, put_command}
use Rattle.tab_model.proofs.StepCases.{command_if, subscribe_refusal_if, subscribe_if, unsubscribe_if}
use Rattle.tab_model.proofs.Splits.{none_handed, split_fits}
use Rattle.tab_model.proofs.SessionLists.{found, itself}
use Rattle.tab_outbox.specs.declared.mailbox.Met.{Met}
use Rattle.tab_outbox.specs.Mailboxes.{Meets}
use Rattle.tab_subs.specs.Subscribers as subs
use Rattle.tab_subs.specs.Subscribers.{at, change, taken_from, is_full, Marks}
use Rattle.tab_core.specs.Joined.{Subscriber}
use Rattle.tab_subs.specs.declared.answers.Taken.{Taken}
use Rattle.tab_subs.specs.declared.answers.Taken.TheVariants as taken
use Rattle.tab_subs.specs.declared.answers.Marked.{Marked}
use Rattle.tab_subs.specs.declared.answers.Marked.TheVariants as mark
use Rattle.tab_core.specs.declared.step.Stepped.{Stepped}
use Rattle.tab_core.specs.Parts.{Parts, session_of, state_of}
use Rattle.tab_core.proofs.Keeping.{SameKeys}
use Rattle.tab_core.proofs.Places.{at_of}
use Rattle.tab_core.specs.Subscribing.{refused_by, marked_reply, taken_reply}
use Rattle.tab_core.specs.Runs.{StepsTo}
use Rattle.tab_core.proofs.SessionsLemmas.{at_session, none_at, some_at, number_at, changed, same_keys, changed_keys, change_itself}

-- a step of one session, and the sessions that it leaves
abbrev pub Makes : Parts → ℕ → Ask → Stepped → List Subscriber → Type 0
Makes m n a s cs = StepsTo (state_of m) n a s (state_of (record m { sessions = cs })) × SameKeys m.sessions cs

module _ (m : Parts) (n : ℕ) (b : Subscriber) (here : at m.sessions n ≡ Some b) where
  abbrev σ : State
  σ = state_of m

  is_n : b.number ≡ n
  is_n = number_at m.sessions n b here

  sits : session_at σ.sessions n ≡ Some (session_of b)
  sits = some_at m.sessions n b here

  keys : (c : Subscriber) → c.number ≡ b.number → b.transaction ≡ c.transaction → SameKeys m.sessions (change m.sessions c)
  keys c is e = changed_keys m.sessions b c (ap (at m.sessions) (is ∙ is_n) ∙ here) e

  -- ---- Take

  gives : (items : List Item) (l : Option ℕ) → b.overflow ≡ l
      → give σ (session_of b) items l ≡ record { state = state_of (record m { sessions = change m.sessions (subs.give b items l).0 }); reply = (taken_reply (Some (subs.give b items l).1)).reply; entry = None }
  gives (x ∷ xs) l e = ap (λ τ. step_without_entry τ (reply.Taken x)) (changed m (record b { outbox = record b.outbox { items = xs } }))
  gives [] None e = ap (λ cs. step_without_entry (state_of (record m { sessions = cs })) reply.Empty) (sym (change_itself m.sessions b (ap (at m.sessions) is_n ∙ here)))
  gives [] (Some c) e = ap (λ τ. step_without_entry τ (reply.Overflow c)) (changed m (record b { overflow = None }))

  take_number : (items : List Item) (l : Option ℕ) → subs.Subscriber.number (subs.give b items l).0 ≡ b.number
  take_number (x ∷ xs) l = refl
  take_number [] None = refl
  take_number [] (Some c) = refl

  take_transaction : (items : List Item) (l : Option ℕ) → b.transaction ≡ subs.Subscriber.transaction (subs.give b items l).0
  take_transaction (x ∷ xs) l = refl
  take_transaction [] None = refl
  take_transaction [] (Some c) = refl

  taken_there : outcome σ [] n Take ≡ record { state = state_of (record m { sessions = change m.sessions (subs.take b).0 }); reply = (taken_reply (Some (subs.take b).1)).reply; entry = None }
  taken_there = at_session σ [] n Take (Some (session_of b)) sits ∙ gives (items_to_take b.outbox b.outbox.capacity) b.overflow refl

  taken_keys : SameKeys m.sessions (change m.sessions (subs.take b).0)
  taken_keys = keys (subs.take b).0 (take_number (items_to_take b.outbox b.outbox.capacity) b.overflow) (take_transaction (items_to_take b.outbox b.outbox.capacity) b.overflow)

  -- ---- markers

  marks : (mm : Marked) (ws : List Watch) (x : Item) (e : Entry)
      → put_marker σ (is_full mm) (session_of b) ws x e ≡ record { state = state_of (record m { sessions = change m.sessions (subs.marked mm ws x b) }); reply = (marked_reply (Some mm) e).reply; entry = (marked_reply (Some mm) e).entry }
  marks mark.Full ws x e = ap (λ τ. step_without_entry τ reply.OutboxFull) (changed m (record b { outbox = with_refusal b.outbox }))
  marks mark.Put ws x e = ap (λ τ. let o : Outcome = record { state = τ; reply = reply.SubscribedHere; entry = Some e } in o) (changed m (record b { watching = ws; outbox = with_items b.outbox (x ∷ []) }))

  marked_keys : (mm : Marked) (ws : List Watch) (x : Item) → SameKeys m.sessions (change m.sessions (subs.marked mm ws x b))
  marked_keys mark.Full ws x = keys (record b { outbox = with_refusal b.outbox }) refl refl
  marked_keys mark.Put ws x = keys (record b { watching = ws; outbox = with_items b.outbox (x ∷ []) }) refl refl

  -- who refused the marker
  abbrev pub over_of : Marked → List ℕ
  over_of mm = if is_full mm then n ∷ [] else []

  over_is : (mm : Marked) → has_session (over_of mm) b.number ≡ is_full mm
  over_is mark.Full = ap (λ c. c || false) (ap (λ q. n == q) is_n ∙ itself n)
  over_is mark.Put = refl

  pinned : (mm : Marked) → IfSome b.outbox.capacity (λ c. is_full mm ≡ nat_le c (length b.outbox.items)) → IsSplitByOverflow (session_of b ∷ []) (over_of mm)
  pinned mm h = split_fits (session_of b ∷ []) (over_of mm) (is_full mm, [], ap (λ q. if is_full mm then q ∷ [] else []) (sym is_n), h, refl)

  abbrev Step : Command → List ℕ → Stepped → List Subscriber → Type 0
  Step c over r cs = Allowed σ over n (DoCommand c) × (outcome σ over n (DoCommand c) ≡ record { state = state_of (record m { sessions = cs }); reply = r.reply; entry = r.entry })

  -- a marker of the session's own command
  marked_step : (c : Command) → is_abort c ≡ false → is_waiting σ n ≡ false → (ws : List Watch) (x : Item) (e : Entry) (mm : Marked)
      → ((over : List ℕ) → do_command σ over (session_of b) c ≡ put_marker σ (has_session over b.number) (session_of b) ws x e)
      → put_command σ (session_of b) c ≡ session_of b ∷ []
      → IfSome b.outbox.capacity (λ q. is_full mm ≡ nat_le q (length b.outbox.items))
      → Step c (over_of mm) (marked_reply (Some mm) e) (change m.sessions (subs.marked mm ws x b))
  marked_step c no_abort idle ws x e mm asks puts room = (
    subst (λ ss. IsSplitByOverflow ss (over_of mm))
        (sym (ap (put_ask σ (DoCommand c)) sits ∙ ap (λ q. if q then [] else put_command σ (session_of b) c) wait ∙ puts))
        (pinned mm room),
    at_session σ (over_of mm) n (DoCommand c) (Some (session_of b)) sits
        ∙ ap (λ q. command_if σ (over_of mm) (session_of b) c (q && not (is_abort c))) wait
        ∙ asks (over_of mm)
        ∙ ap (λ q. put_marker σ q (session_of b) ws x e) (over_is mm)
        ∙ marks mm ws x e,
  )
    where
      wait : is_waiting σ b.number ≡ false
      wait = ap (is_waiting σ) is_n ∙ idle

-- ---- the calls

-- what a Take answers
pub take_makes : (m : Parts) (n : ℕ) (cs : List Subscriber) (x : Option Taken) → (cs, x) ≡ taken_from m.sessions (at m.sessions n) → (s' : Stepped) → s' ≡ taken_reply x → Makes m n Take s' cs
take_makes m n cs x h s' is = by (at m.sessions n) refl
  where
    bare_entry : (y : Option Taken) → None ≡ (taken_reply y).entry
    bare_entry None = refl
    bare_entry (Some (taken.Item i)) = refl
    bare_entry (Some (taken.Overflow c)) = refl
    bare_entry (Some taken.Empty) = refl

    cs_is : cs ≡ (taken_from m.sessions (at m.sessions n)).0
    cs_is = ap (λ p. p.0) h

    x_is : x ≡ (taken_from m.sessions (at m.sessions n)).1
    x_is = ap (λ p. p.1) h

    by : (o : Option Subscriber) → at m.sessions n ≡ o → Makes m n Take s' cs
    by None e =
        let same : cs ≡ m.sessions = cs_is ∙ ap (λ q. (taken_from m.sessions q).0) e in
        let told : s' ≡ record { reply = reply.BadSession; entry = None } = is ∙ ap taken_reply (x_is ∙ ap (λ q. (taken_from m.sessions q).1) e) in (
          ([], none_handed, at_session (state_of m) [] n Take None (none_at m.sessions n e) ∙ (λ i. record { state = state_of (record m { sessions = sym same i }); reply = Stepped.reply (sym told i); entry = Stepped.entry (sym told i) })),
          subst (SameKeys m.sessions) (sym same) (same_keys m.sessions),
        )
    by (Some b) e =
        let same : cs ≡ change m.sessions (subs.take b).0 = cs_is ∙ ap (λ q. (taken_from m.sessions q).0) e in
        let told : s' ≡ taken_reply (Some (subs.take b).1) = is ∙ ap taken_reply (x_is ∙ ap (λ q. (taken_from m.sessions q).1) e) in (
          ([], none_handed, taken_there m n b e ∙ (λ i. record { state = state_of (record m { sessions = sym same i }); reply = Stepped.reply (sym told i); entry = (bare_entry (Some (subs.take b).1) ∙ ap (λ (y : Stepped). y.entry) (sym told)) i })),
          subst (SameKeys m.sessions) (sym same) (taken_keys m n b e),
        )

-- a command that begins or ends a subscription: what refuses it, and its marker
pub record IsMarking (σ : State) (c : Command) (f : Session → Option Reply) (ws : Session → List Watch) (x : Item) (e : ℕ → Entry) : Type 0 where
  pub no_abort : is_abort c ≡ false
  pub refuses : (over : List ℕ) (s : Session) (r : Reply) → f s ≡ Some r → (do_command σ over s c ≡ step_without_entry σ r) × (put_command σ s c ≡ [])
  pub marks : (over : List ℕ) (s : Session) → f s ≡ None → (do_command σ over s c ≡ put_marker σ (has_session over s.number) s (ws s) x (e s.number)) × (put_command σ s c ≡ s ∷ [])

module _ (m : Parts) (n : ℕ) (c : Command) (f : Session → Option Reply) (ws : Session → List Watch) (x : Item) (e : ℕ → Entry) (marking : IsMarking (state_of m) c f ws x e) where
  abbrev now : State
  now = state_of m

  abbrev refusal_where : Session → Bool → Option Reply
  refusal_where s b = if b then Some reply.WaitingNow else f s

  one_reply : {a r : Reply} → Some a ≡ Some r → a ≡ r
  one_reply q = cc

  refused_mark_if : (s : Session) (r : Reply) (b : Bool) → refusal_where s b ≡ Some r → ((over : List ℕ) → command_if now over s c (b && true) ≡ step_without_entry now r) × ((if b then [] else put_command now s c) ≡ [])
  refused_mark_if s r true h = (λ over. ap (step_without_entry now) (one_reply h), refl)
  refused_mark_if s r false h = (λ over. (marking.refuses over s r h).0, (marking.refuses [] s r h).1)

  -- a refusal
  pub refused_mark : (r : Reply) → refused_by now n f (session_at now.sessions n) ≡ Some r → (s' : Stepped) → s' ≡ record { reply = r; entry = None } → StepsTo now n (DoCommand c) s' now
  refused_mark r h s' is = ([], p.0, p.1 ∙ (λ i. record { state = now; reply = Stepped.reply (sym is i); entry = Stepped.entry (sym is i) }))
    where
      by : (o : Option Session) → session_at now.sessions n ≡ o → refused_by now n f o ≡ Some r → Allowed now [] n (DoCommand c) × (outcome now [] n (DoCommand c) ≡ step_without_entry now r)
      by None q g = (
        subst (λ ss. IsSplitByOverflow ss []) (sym (ap (put_ask now (DoCommand c)) q)) none_handed,
        at_session now [] n (DoCommand c) None q ∙ ap (step_without_entry now) (one_reply g),
      )
      by (Some s) q g =
          let is_n : s.number ≡ n = found now.sessions s n q in
          let p = refused_mark_if s r (is_waiting now s.number) (ap (λ j. refusal_where s (is_waiting now j)) is_n ∙ g) in (
            subst (λ ss. IsSplitByOverflow ss []) (sym (ap (put_ask now (DoCommand c)) q ∙ p.1)) none_handed,
            at_session now [] n (DoCommand c) (Some s) q ∙ ap (λ b. command_if now [] s c (is_waiting now s.number && not b)) marking.no_abort ∙ p.0 [],
          )

      p : Allowed now [] n (DoCommand c) × (outcome now [] n (DoCommand c) ≡ step_without_entry now r)
      p = by (session_at now.sessions n) refl h

  free_if : (s : Session) (b : Bool) → refusal_where s b ≡ None → (b ≡ false) × (f s ≡ None)
  free_if s true h = cc
  free_if s false h = (refl, h)

  -- what its post made of the marker
  pub mark_makes : refused_by now n f (session_at now.sessions n) ≡ None → (w : Subscriber → List Watch) → ((b : Subscriber) → w b ≡ ws (session_of b)) → (k : Option Marked) (cs : List Subscriber)
      → Marks m.sessions (at m.sessions n) w x k cs → (s' : Stepped) → s' ≡ marked_reply k (e n) → Makes m n (DoCommand c) s' cs
  mark_makes free w same k cs marked_as s' is = by (at m.sessions n) refl
    where
      by : (o : Option Subscriber) → at m.sessions n ≡ o → Makes m n (DoCommand c) s' cs
      by None h = absurd (some_none (sym (ap (refused_by now n f) (none_at m.sessions n h)) ∙ free))
        where
          some_none : Some reply.BadSession ≡ None → ⊥
          some_none q = cc
      by (Some b) h = at_mark k (subst (λ o. Marks m.sessions o w x k cs) h marked_as) is
        where
          both : (is_waiting now n ≡ false) × (f (session_of b) ≡ None)
          both = free_if (session_of b) (is_waiting now n) (sym (ap (refused_by now n f) (some_at m.sessions n b h)) ∙ free)

          at_mark : (mm : Option Marked) → Marks m.sessions (Some b) w x mm cs → s' ≡ marked_reply mm (e n) → Makes m n (DoCommand c) s' cs
          at_mark None q told = absurd q
          at_mark (Some mm) (cs_is, room) told =
              let p = marked_step m n b h c marking.no_abort both.0 (w b) x (e n) mm
              (λ over. (marking.marks over (session_of b) both.1).0 ∙ (λ i. put_marker now (has_session over b.number) (session_of b) (sym (same b) i) x (e (number_at m.sessions n b h i))))
              (marking.marks [] (session_of b) both.1).1 room in (
                (over_of m n b h mm, p.0, p.1 ∙ (λ i. record { state = state_of (record m { sessions = sym cs_is i }); reply = Stepped.reply (sym told i); entry = Stepped.entry (sym told i) })),
                subst (SameKeys m.sessions) (sym cs_is) (marked_keys m n b h mm (w b) x),
              )

-- ---- the two commands

pub subscribes : (σ : State) (t : List ℕ) (l : Level) (dump : Bool) → IsMarking σ (command.Subscribe t l dump) (λ s. subscribe_refusal σ s t) (λ s. record { table = t; level = l } ∷ s.watching) (Began t l (dump_of σ.tables t dump)) (λ n. Subscribed n t l dump)
subscribes σ t l dump = record {
  no_abort = refl;
  refuses = λ over s r h. (ap (subscribe_if σ over s t l dump) h, ap (λ o. if is_some o then [] else s ∷ []) h);
  marks = λ over s h. (ap (subscribe_if σ over s t l dump) h, ap (λ o. if is_some o then [] else s ∷ []) h);
}

at_level : (b : Bool) (t : List ℕ) → (r : Reply) → refusal_if (not b) (reply.NotSubscribed t) ≡ Some r → (b ≡ false) × (r ≡ reply.NotSubscribed t)
at_level true t r h = cc
at_level false t r h = (refl, sym (one h))
  where
    one : {a : Reply} → Some a ≡ Some r → a ≡ r
    one q = cc

off_level : (b : Bool) (t : List ℕ) → refusal_if (not b) (reply.NotSubscribed t) ≡ None → b ≡ true
off_level true t h = refl
off_level false t h = cc

pub unsubscribes : (σ : State) (t : List ℕ) (l : Level) → IsMarking σ (command.Unsubscribe t l) (unsubscribe_refusal t l) (λ s. without_watch s.watching t) (Ended t ending.Unsubscribed) (λ n. Unsubscribed n t)
unsubscribes σ t l = record {
  no_abort = refl;
  refuses = λ over s r h. let p = at_level (is_at (level_in s.watching t) l) t r h in (ap (unsubscribe_if σ over s t) p.0 ∙ ap (step_without_entry σ) (sym p.1), ap (λ b. if b then s ∷ [] else []) p.0);
  marks = λ over s h. let p = off_level (is_at (level_in s.watching t) l) t h in (ap (unsubscribe_if σ over s t) p, ap (λ b. if b then s ∷ [] else []) p);
}

-- ---- what refuses a session's command before its own state does

module _ (m : Parts) (n : ℕ) where
  abbrev here_of : State
  here_of = state_of m

  abbrev pub refusal : (Session → Option Reply) → Option Reply
  refusal f = refused_by here_of n f (session_at here_of.sessions n)

  -- one that is joined, and waits or not
  waits_is : (f : Session → Option Reply) (b : Subscriber) → at m.sessions n ≡ Some b → (c : Bool) → is_waiting here_of n ≡ c → refusal f ≡ (if c then Some reply.WaitingNow else f (session_of b))
  waits_is f b h c w = ap (refused_by here_of n f) (some_at m.sessions n b h) ∙ ap (λ q. if q then Some reply.WaitingNow else f (session_of b)) w

  pub unjoined : (f : Session → Option Reply) → at m.sessions n ≡ None → Some reply.BadSession ≡ refusal f
  unjoined f h = sym (ap (refused_by here_of n f) (none_at m.sessions n h))

  pub waits_now : (f : Session → Option Reply) (b : Subscriber) → at m.sessions n ≡ Some b → true ≡ is_waiting here_of n → Some reply.WaitingNow ≡ refusal f
  waits_now f b h w = sym (waits_is f b h true (sym w))

  pub nothing_yet : (b : Subscriber) → at m.sessions n ≡ Some b → false ≡ is_waiting here_of n → None ≡ refusal (λ s. None)
  nothing_yet b h w = sym (waits_is (λ x. None) b h false (sym w))

  -- whose session is not refused is refused as its own state says
  abbrev pub Sits : Subscriber → Type 0
  Sits b = (at m.sessions n ≡ Some b) × (is_waiting here_of n ≡ false)

  none_some : {r : Reply} → None ≡ Some r → ⊥
  none_some q = cc

  pub who_sits : None ≡ refusal (λ s. None) → (b : Subscriber) × Sits b
  who_sits h = by (at m.sessions n) refl (is_waiting here_of n) refl
    where
      by : (o : Option Subscriber) → at m.sessions n ≡ o → (c : Bool) → is_waiting here_of n ≡ c → (b : Subscriber) × Sits b
      by None e c w = absurd (none_some (h ∙ sym (unjoined (λ s. None) e)))
      by (Some b) e true w = absurd (none_some (h ∙ waits_is (λ x. None) b e true w))
      by (Some b) e false w = (b, (e, w))

-- ---- what a session's own state refuses

module _ (m : Parts) (n : ℕ) (t : List ℕ) (free : None ≡ refusal m n (λ s. None)) where
  abbrev mine : Subscriber
  mine = (who_sits m n free).0

  there : Sits m n mine
  there = (who_sits m n free).1

  own : (f : Session → Option Reply) → refusal m n f ≡ f (session_of mine)
  own f = waits_is m n f mine there.0 false there.1

  abbrev of_subscribe : Session → Option Reply
  of_subscribe s = subscribe_refusal (state_of m) s t

  -- the three tests of a subscription
  asked : (a b c : Bool) → is_some (subs.overflow_of (at m.sessions n)) ≡ a → is_some (Rattle.tab_model.specs.Catalogs.find m.catalog t) ≡ b → is_some (subs.level_of (at m.sessions n) t) ≡ c
      → refusal m n of_subscribe ≡ (subscribe_refusal_if t a (not b) c)
  asked a b c e f g =
      own of_subscribe
      ∙ (λ i. subscribe_refusal_if t ((ap (λ o. is_some (subs.overflow_of o)) (sym there.0) ∙ e) i) (not (f i)) ((ap (λ o. is_some (subs.level_of o t)) (sym there.0) ∙ g) i))

  pub overflow_untold : true ≡ is_some (subs.overflow_of (at m.sessions n)) → Some reply.OverflowUntold ≡ refusal m n of_subscribe
  overflow_untold e = sym (asked true _ _ (sym e) refl refl)

  pub no_table : false ≡ is_some (subs.overflow_of (at m.sessions n)) → false ≡ is_some (Rattle.tab_model.specs.Catalogs.find m.catalog t) → Some (reply.UnknownTable t) ≡ refusal m n of_subscribe
  no_table e f = sym (asked false false _ (sym e) (sym f) refl)

  pub subscribed_already : false ≡ is_some (subs.overflow_of (at m.sessions n)) → true ≡ is_some (Rattle.tab_model.specs.Catalogs.find m.catalog t) → true ≡ is_some (subs.level_of (at m.sessions n) t) → Some (reply.AlreadySubscribed t) ≡ refusal m n of_subscribe
  subscribed_already e f g = sym (asked false true true (sym e) (sym f) (sym g))

  pub may_subscribe : false ≡ is_some (subs.overflow_of (at m.sessions n)) → true ≡ is_some (Rattle.tab_model.specs.Catalogs.find m.catalog t) → false ≡ is_some (subs.level_of (at m.sessions n) t) → None ≡ refusal m n of_subscribe
  may_subscribe e f g = sym (asked false true false (sym e) (sym f) (sym g))

  -- the one test of its end
  at_it : (l : Level) (a : Bool) → is_at (subs.level_of (at m.sessions n) t) l ≡ a → refusal m n (unsubscribe_refusal t l) ≡ refusal_if (not a) (reply.NotSubscribed t)
  at_it l a e = own (unsubscribe_refusal t l) ∙ ap (λ b. refusal_if (not b) (reply.NotSubscribed t)) (ap (λ o. is_at (subs.level_of o t) l) (sym there.0) ∙ e)

  pub may_unsubscribe : (l : Level) → true ≡ is_at (subs.level_of (at m.sessions n) t) l → None ≡ refusal m n (unsubscribe_refusal t l)
  may_unsubscribe l e = sym (at_it l true (sym e))

  pub not_subscribed : (l : Level) → false ≡ is_at (subs.level_of (at m.sessions n) t) l → Some (reply.NotSubscribed t) ≡ refusal m n (unsubscribe_refusal t l)
  not_subscribed l e = sym (at_it l false (sym e))

-- ---- as the calls say it, of the core's state

-- what is not there
pub free : {A : Type 0} (o p : Option A) → ((x : A) → o ≡ Some x → ⊥) → o ≡ p → None ≡ p
free None p n h = h
free (Some x) p n h = absurd (n x refl)

pub copied_is_some : {T : Type 0} (o : Option (Bor T)) → is_some o ≡ is_some (option_copied o)
copied_is_some None = refl
copied_is_some (Some x) = refl

-- a begin marker of a copy of the table's name, and of its records
pub began_with : (bs cs : List Subscriber) (n : ℕ) (t : List ℕ) (l : Level) (named : List ℕ) (records dump : Option Rattle.tab_term.specs.Data.PlainTerms) (k : Option Marked) → named ≡ t → records ≡ dump
    → Marks bs (at bs n) (λ b. record { table = named; level = l } ∷ b.watching) (Began named l records) k cs → Marks bs (at bs n) (λ b. record { table = t; level = l } ∷ b.watching) (Began t l dump) k cs
began_with bs cs n t l named records dump k is same h =
    subst (λ d. Marks bs (at bs n) (λ b. record { table = t; level = l } ∷ b.watching) (Began t l d) k cs) same
    (subst (λ u. Marks bs (at bs n) (λ b. record { table = u; level = l } ∷ b.watching) (Began u l records) k cs) is h)

module _ (m : Parts) (ρ : State) (view : state_of m ≡ ρ) (n : ℕ) where
  pub seen : (f : State → Session → Option Reply) (o : Option Reply) → o ≡ refusal m n (f (state_of m)) → o ≡ refused_by ρ n (f ρ) (session_at ρ.sessions n)
  seen f o h = subst (λ (μ : State). o ≡ refused_by μ n (f μ) (session_at μ.sessions n)) view h

  pub unseen : (f : State → Session → Option Reply) (o : Option Reply) → o ≡ refused_by ρ n (f ρ) (session_at ρ.sessions n) → o ≡ refusal m n (f (state_of m))
  unseen f o h = subst (λ (μ : State). o ≡ refused_by μ n (f μ) (session_at μ.sessions n)) (sym view) h

module _ (m : Parts) (ρ : State) (view : state_of m ≡ ρ) (n : ℕ) (t : List ℕ) (l : Level) where
  module _ (dump : Bool) where
    abbrev subscribing : Command
    subscribing = command.Subscribe t l dump

    abbrev began : Item
    began = Began t l (dump_of m.catalog t dump)

    abbrev refusing : Session → Option Reply
    refusing s = subscribe_refusal (state_of m) s t

    pub subscription_refused : (r : Reply) → Some r ≡ refused_by ρ n (λ s. subscribe_refusal ρ s t) (session_at ρ.sessions n) → (s' : Stepped) → s' ≡ record { reply = r; entry = None } → StepsTo ρ n (DoCommand subscribing) s' ρ
    subscription_refused r h s' is = subst (λ (μ : State). StepsTo μ n (DoCommand subscribing) s' μ) view
        (refused_mark m n subscribing refusing (λ s. record { table = t; level = l } ∷ s.watching) began (λ j. Subscribed j t l dump) (subscribes (state_of m) t l dump)
        r (sym (unseen m ρ view n (λ μ s. subscribe_refusal μ s t) (Some r) h)) s' is)

    pub subscription_made : None ≡ refused_by ρ n (λ s. subscribe_refusal ρ s t) (session_at ρ.sessions n) → (k : Option Marked) (cs : List Subscriber) → Marks m.sessions (at m.sessions n) (λ b. record { table = t; level = l } ∷ b.watching) began k cs
        → (s' : Stepped) → s' ≡ marked_reply k (Subscribed n t l dump) → Makes m n (DoCommand subscribing) s' cs
    subscription_made h k cs marked_as s' is =
        mark_makes m n subscribing refusing (λ s. record { table = t; level = l } ∷ s.watching) began (λ j. Subscribed j t l dump) (subscribes (state_of m) t l dump)
        (sym (unseen m ρ view n (λ μ s. subscribe_refusal μ s t) None h)) (λ b. record { table = t; level = l } ∷ b.watching) (λ b. refl) k cs marked_as s' is

  abbrev unsubscribing : Command
  unsubscribing = command.Unsubscribe t l

  pub end_refused : (r : Reply) → Some r ≡ refused_by ρ n (unsubscribe_refusal t l) (session_at ρ.sessions n) → (s' : Stepped) → s' ≡ record { reply = r; entry = None } → StepsTo ρ n (DoCommand unsubscribing) s' ρ
  end_refused r h s' is = subst (λ (μ : State). StepsTo μ n (DoCommand unsubscribing) s' μ) view
      (refused_mark m n unsubscribing (unsubscribe_refusal t l) (λ s. without_watch s.watching t) (Ended t ending.Unsubscribed) (λ j. Unsubscribed j t) (unsubscribes (state_of m) t l)
      r (sym (unseen m ρ view n (λ μ. unsubscribe_refusal t l) (Some r) h)) s' is)

  pub end_made : None ≡ refused_by ρ n (unsubscribe_refusal t l) (session_at ρ.sessions n) → (k : Option Marked) (cs : List Subscriber) → Marks m.sessions (at m.sessions n) (λ b. without_watch b.watching t) (Ended t ending.Unsubscribed) k cs
      → (s' : Stepped) → s' ≡ marked_reply k (Unsubscribed n t) → Makes m n (DoCommand unsubscribing) s' cs
  end_made h k cs marked_as s' is =
      mark_makes m n unsubscribing (unsubscribe_refusal t l) (λ s. without_watch s.watching t) (Ended t ending.Unsubscribed) (λ j. Unsubscribed j t) (unsubscribes (state_of m) t l)
      (sym (unseen m ρ view n (λ μ. unsubscribe_refusal t l) None h)) (λ b. without_watch b.watching t) (λ b. refl) k cs marked_as s' is

-- ---- the post of a session, and its overflow

pub post_seen : (ss : List Subscriber) (n : ℕ) → option_map (λ (b : Subscriber). b.outbox) (at ss n) ≡ option_map (λ (s : Session). s.outbox) (session_at (map session_of ss) n)
post_seen ss n = by (at ss n) ∙ ap (option_map (λ (s : Session). s.outbox)) (sym (at_of ss n))
  where
    by : (o : Option Subscriber) → option_map (λ (b : Subscriber). b.outbox) o ≡ option_map (λ (s : Session). s.outbox) (option_map session_of o)
    by None = refl
    by (Some b) = refl

pub met_seen : (m : Parts) (ρ : State) → state_of m ≡ ρ → (n mailbox : ℕ) (before after : List Item) (x : Option Met) → Meets (option_map (λ (b : Subscriber). b.outbox) (at m.sessions n)) mailbox before x after
    → Meets (option_map (λ (s : Session). s.outbox) (session_at ρ.sessions n)) mailbox before x after
met_seen m ρ view n mailbox before after x h =
    subst (λ (o : Option Outbox). Meets o mailbox before x after) (post_seen m.sessions n ∙ ap (λ (μ : State). option_map (λ (s : Session). s.outbox) (session_at μ.sessions n)) view) h

pub overflow_seen : (ss : List Subscriber) (n : ℕ) → MatchOption (session_at (map session_of ss) n) (subs.overflow_of (at ss n) ≡ None) (λ (s : Session). subs.overflow_of (at ss n) ≡ s.overflow)
overflow_seen ss n = subst (λ p. MatchOption p (subs.overflow_of (at ss n) ≡ None) (λ (s : Session). subs.overflow_of (at ss n) ≡ s.overflow)) (sym (at_of ss n)) (by (at ss n))
  where
    by : (o : Option Subscriber) → MatchOption (option_map session_of o) (subs.overflow_of o ≡ None) (λ (s : Session). subs.overflow_of o ≡ s.overflow)
    by None = refl
    by (Some b) = refl
