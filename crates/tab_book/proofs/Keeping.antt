-- What holds of a book's parts is kept by its steps, its folds, its joins and its leaves.
use Rattle.std.proofs.Common.{◌≡◌, ◌≢◌, ◌≤◌, ◌<◌, ◌⊎◌, inl, inr, ℕ, ◌+◌, List, [], ◌∷◌, ◌++◌, Bool, true, false, ◌&&◌, refl, sym, ap, ◌∙◌, subst, arith, append-nil, length, Option, Some, None}
use Rattle.std.specs.Bool.{Decides}
use Rattle.std.specs.List.{AllByRecursion}
use Rattle.std.specs.Prelude.{Result, Ok, Err, IfOk, IfSome, OnOk, OnErr, zero, suc, ◌==◌, ◌||◌, ◌-◌, ◌^◌, if◌then◌else◌, nat_lt, nat_le}
use Rattle.std.proofs.lemmas.Bool.{and_parts}
use Rattle.std.proofs.lemmas.Bool.Decides.{nat_tests}
use Rattle.tab_model.specs.declared.data.Command.TheVariants as command
use Rattle.tab_model.specs.declared.data.Reply.{Reply}
use Rattle.tab_model.specs.declared.data.Entry.{Entry}
use Rattle.tab_model.specs.declared.data.Limits.{Limits}
use Rattle.tab_model.specs.declared.data.Reply.TheVariants as reply
use Rattle.tab_model.specs.History.{empty, slice_since_after}
use Rattle.tab_model.specs.Standing.{JoinsChannel, MayFollow, FollowsLog, is_joined, still_joined, may_enter}
use Rattle.tab_model.specs.State.{Outbox, Session, State, new, session_at, IsSound}
use Rattle.tab_model.specs.Reached.{IsRising}
use Rattle.tab_model.specs.declared.ask.Ask.TheVariants.{Join, Leave, Retry, Take, Do as DoCommand}
use Rattle.tab_model.specs.Outcome.{Ask, Outcome, outcome, step_without_entry, step_of}
use Rattle.tab_model.proofs.StepCases.{join_if}
use Rattle.tab_model.specs.Run.{Allowed, entries}
use Rattle.tab_model.proofs.Entering.{enters_none, session_never}
use Rattle.tab_model.proofs.PostsStay.{JoinsAs, stays, found_has, post_stays}
use Rattle.tab_model.proofs.Schedules.{new_sound}
use Rattle.tab_model.proofs.ReachedWaits.{new_rising, step_rising}
use Rattle.tab_model.proofs.StandingLemmas.{new_follows, step_follows, fold_follows, forget_follows, history_of, commits_are, sent_is, watched_is, sent_grows, left_away}
use Rattle.tab_journal.specs.Journals.{JournalView, fold_oldest, forget, is_full, full_weight, weight_in, bytes_in}
use Rattle.tab_core.specs.Steps.{takes_no_memory}
use Rattle.tab_post.specs.Ends.{empty_outbox}
use Rattle.tab_book.specs.Logs.{Made, made, joined, IsWholeRun}
use Rattle.tab_book.specs.Running.{Running, IsRunning, HavePlaces, Holds}
use Rattle.tab_book.specs.Steps.{Step, oldest_joined, folded, with_folds, has_to_fold, AreNeeded, FoldsWhileFull, StepsTo, MayFold, with_entries, with_room, leaves, has_free_seat, with_new_session, StepsFrom, KeepsPosts, ask_of, is_never_refused}

pub new_holds : (seen : ℕ) (limits : Limits) (n most : ℕ) → 1 ≤ n → 1 ≤ most → Holds seen (new limits) (record { base = empty; entries = []; limit = n; most_bytes = most })
new_holds seen limits n most limit some = record {
  limit = limit;
  most_bytes = some;
  within = omega arith;
  sound = new_sound limits;
  rising = new_rising limits;
  places = tt;
  past = [];
  stands = new_follows limits;
}

pub running : (seen : ℕ) (σ : State) (j : JournalView) (log : List Made) → Holds seen σ j × IsWholeRun log σ → IsRunning (record { state = σ; journal = j; log = log })
running seen σ j log (k, run) = record {
  past = k.past;
  whole = k.stands.tied;
  history = history_of k.past j.base j.entries σ k.stands;
  commits = commits_are k.past j.base j.entries σ k.stands;
  sound = k.sound;
  rising = k.rising;
  run = run;
  sent = λ n s here. record { before = Rattle.tab_model.specs.Slices.slice n k.past; is = sent_is k.past j.base j.entries σ k.stands n s here };
  watching = λ n s t here. watched_is k.past j.base j.entries σ k.stands n s here t;
}

-- ---- the oldest entry is folded

module _ (seen : ℕ) (σ : State) where
  pub fold_holds : (j : JournalView) → Holds seen σ j → Holds seen σ (folded σ j)
  fold_holds j k = by j.entries refl
    where
      by : (es : List Entry) → j.entries ≡ es → Holds seen σ (Rattle.tab_journal.specs.Journals.without_oldest (oldest_joined σ es) j.base es j.limit j.most_bytes)
      by [] e = record { limit = k.limit; most_bytes = k.most_bytes; within = let w = k.within in omega arith; sound = k.sound; rising = k.rising; places = k.places; past = k.past; stands = subst (λ (es : List Entry). FollowsLog k.past j.base es σ) e k.stands }
      by (x ∷ es) e = record {
        limit = k.limit;
        most_bytes = k.most_bytes;
        within = shorter x es (subst (λ (ys : List Entry). length ys ≤ j.limit) e k.within);
        sound = k.sound;
        rising = k.rising;
        places = k.places;
        past = k.past ++ x ∷ [];
        stands = fold_follows k.past j.base x es σ (subst (λ (ys : List Entry). FollowsLog k.past j.base ys σ) e k.stands);
      }
        where
          shorter : (y : Entry) (ys : List Entry) → length (y ∷ ys) ≤ j.limit → length ys ≤ j.limit
          shorter y ys h = omega (arith, h)

  pub fold_shortens : (j : JournalView) → 0 < length j.entries → length (folded σ j).entries < length j.entries
  fold_shortens j some = by j.entries some
    where
      by : (es : List Entry) → 0 < length es → length (JournalView.entries (Rattle.tab_journal.specs.Journals.without_oldest (oldest_joined σ es) j.base es j.limit j.most_bytes)) < length es
      by [] h = absurd (omega (arith, h))
      by (x ∷ es) h = omega arith

  pub has_entry : (j : JournalView) → Holds seen σ j → is_full j ≡ true → 0 < length j.entries
  has_entry j k full = by j.entries full
    where
      none : (n most : ℕ) → 1 ≤ n → 1 ≤ most → ((zero == n) || (nat_le full_weight zero || nat_le most zero)) ≡ true → ⊥
      none n most l some h = by (zero == n) (nat_le full_weight zero) (nat_le most zero) refl refl refl h
        where
          by : (x y z : Bool) → (zero == n) ≡ x → nat_le full_weight zero ≡ y → nat_le most zero ≡ z → (x || (y || z)) ≡ true → ⊥
          by true y z e f g h = grind (arith, nat_tests)
          by false true z e f g h = grind (arith, nat_tests)
          by false false true e f g h = grind (arith, nat_tests)
          by false false false e f g h = cc

      by : (es : List Entry) → ((length es == j.limit) || (nat_le full_weight (weight_in es) || nat_le j.most_bytes (bytes_in j.most_bytes es))) ≡ true → 0 < length es
      by [] h = absurd (none j.limit j.most_bytes k.limit k.most_bytes h)
      by (x ∷ es) h = omega arith

-- ---- a step

-- a session joins with a new channel's post, whose mailbox has a place that was seen
abbrev pub HasPlace : ℕ → ℕ → Option ℕ → Option ℕ → Type 0
HasPlace seen n c m = IfSome m (λ place. place < seen)

abbrev pub JoinsBook : ℕ → Ask → Type 0
JoinsBook seen (Join b) = ((b.capacity ≡ None) × (b.items ≡ [])) × IfSome b.mailbox (λ place. place < seen)
JoinsBook seen Leave = Unit {0}
JoinsBook seen Retry = Unit {0}
JoinsBook seen Take = Unit {0}
JoinsBook seen (DoCommand c) = Unit {0}

joins_channel : (seen : ℕ) (a : Ask) → JoinsBook seen a → JoinsChannel a
joins_channel seen (Join b) h = h.0
joins_channel seen Leave h = tt
joins_channel seen Retry h = tt
joins_channel seen Take h = tt
joins_channel seen (DoCommand c) h = tt

joins_as : (seen : ℕ) (σ : State) (n : ℕ) (a : Ask) → JoinsBook seen a → JoinsAs (HasPlace seen) σ n a
joins_as seen σ n (Join b) h = λ e. h.1
joins_as seen σ n Leave h = tt
joins_as seen σ n Retry h = tt
joins_as seen σ n Take h = tt
joins_as seen σ n (DoCommand c) h = tt

-- an entry comes only where there is room for it
pub one_fits : (σ : State) (over : List ℕ) (n : ℕ) (a : Ask) (o : Outcome) (P : Type 0) → outcome σ over n a ≡ o → (may_enter σ n a ≡ true → P) → entries o.entry ≢ [] → P
one_fits σ over n a o P is room some = by (may_enter σ n a) refl
  where
    by : (b : Bool) → may_enter σ n a ≡ b → P
    by true e = room e
    by false e = absurd (some (ap entries (ap (λ (x : Outcome). x.entry) (sym is) ∙ enters_none σ over n a e)))

longer : (es more : List Entry) (n : ℕ) → (more ≡ []) ⊎ (length more ≡ 1) → length es ≤ n → (more ≢ [] → length es < n) → length (es ++ more) ≤ n
longer es [] n h w room = subst (λ (xs : List Entry). length xs ≤ n) (sym (append-nil es)) w
longer es (x ∷ []) n h w room = let r = room (λ e. cc) in let c = count es x in omega (arith, r, c)
  where
    count : (ys : List Entry) (y : Entry) → length (ys ++ y ∷ []) ≡ length ys + 1
    count [] y = refl
    count (z ∷ ys) y = let ih = count ys y in omega (arith, ih)
longer es (x ∷ y ∷ more) n (inl e) w room = cc
longer es (x ∷ y ∷ more) n (inr e) w room = absurd (two e)
  where
    two : length (x ∷ y ∷ more) ≡ 1 → ⊥
    two h = omega (arith, h)

at_most_one : (o : Option Entry) → (entries o ≡ []) ⊎ (length (entries o) ≡ 1)
at_most_one None = inl refl
at_most_one (Some e) = inr refl

module _ (seen : ℕ) (σ : State) (j : JournalView) (k : Holds seen σ j) (over : List ℕ) (n : ℕ) (a : Ask) (o : Outcome) (is : outcome σ over n a ≡ o) where
  pub next_stands : JoinsBook seen a → FollowsLog k.past j.base (j.entries ++ entries o.entry) o.state
  next_stands joins = subst (λ (x : Outcome). FollowsLog k.past j.base (j.entries ++ entries x.entry) x.state) is (step_follows k.past j.base j.entries σ over n a k.sound (joins_channel seen a joins) k.stands)

  pub step_holds : JoinsBook seen a → IsSound o.state → (entries o.entry ≢ [] → length j.entries < j.limit) → Holds seen o.state (with_entries j (entries o.entry))
  step_holds joins sound room = record {
    limit = k.limit;
    most_bytes = k.most_bytes;
    within = longer j.entries (entries o.entry) j.limit (at_most_one o.entry) k.within room;
    sound = sound;
    rising = subst (λ (x : Outcome). IsRising x.state) is (step_rising σ over n a k.sound k.rising);
    places = subst (λ (x : Outcome). HavePlaces seen x.state) is (stays (HasPlace seen) σ over n a (joins_as seen σ n a joins) k.places);
    past = k.past;
    stands = next_stands joins;
  }

  pub step_sent : JoinsBook seen a → (m : ℕ) (s x : Session) → session_at σ.sessions m ≡ Some s → session_at o.state.sessions m ≡ Some x → x.outbox.items ≡ s.outbox.items ++ slice_since_after j.base m j.entries (entries o.entry)
  step_sent joins m s x g h = sent_grows k.past j.base j.entries σ k.stands m s g (entries o.entry) o.state x (next_stands joins) h

  pub step_posts : KeepsPosts σ o.state
  step_posts m s x g h = post_stays σ k.sound over n a m s x g (ap (λ (y : Outcome). session_at y.state.sessions m) is ∙ h)

-- ---- who leaves is forgotten

pub forget_holds : (seen : ℕ) (σ : State) (j : JournalView) (n : ℕ) → (MayFollow σ n → ⊥) → Holds seen σ j → Holds seen σ (forget j n)
forget_holds seen σ j n gone k = record {
  limit = k.limit;
  most_bytes = k.most_bytes;
  within = k.within;
  sound = k.sound;
  rising = k.rising;
  places = k.places;
  past = k.past;
  stands = forget_follows k.past j.base j.entries σ n gone k.stands;
}

pub leaver_gone : (σ : State) (over : List ℕ) (n : ℕ) (o : Outcome) → IsSound σ → is_joined σ n ≡ true → outcome σ over n Leave ≡ o → MayFollow o.state n → ⊥
leaver_gone σ over n o sound joined is may = left_away σ over n sound joined (subst (λ (x : Outcome). MayFollow x.state n) (sym is) may)

-- ---- a journal with room

-- one entry more is folded, where the journal was full
pub one_more_fold : (σ : State) (j now new : JournalView) → FoldsWhileFull σ j now → is_full now ≡ true → new ≡ folded σ now → FoldsWhileFull σ j new
one_more_fold σ j now new h full is = record {
  folds = suc h.folds;
  each = λ k lt. by k lt (nat_lt k h.folds) refl;
  journal = is ∙ ap (folded σ) h.journal;
}
  where
    by : (k : ℕ) → k < suc h.folds → (b : Bool) → nat_lt k h.folds ≡ b → is_full (with_folds σ k j) ≡ true
    by k lt true e = h.each k (grind (arith, nat_tests))
    by k lt false e =
        let last : h.folds ≡ k = grind (arith, nat_tests) in
        subst (λ (i : ℕ). is_full (with_folds σ i j) ≡ true) last (ap is_full (sym h.journal) ∙ full)

pub nothing_folded : (σ : State) (j : JournalView) → FoldsWhileFull σ j j
nothing_folded σ j = record { folds = zero; each = λ k lt. absurd (omega (arith, lt)); journal = refl }

needed : (σ : State) (n : ℕ) (a : Ask) (j now : JournalView) → may_enter σ n a ≡ true → (h : FoldsWhileFull σ j now) → AreNeeded σ n a j h.folds
needed σ n a j now may h k lt = λ i. h.each k lt i && may i

-- the second book is the first with so many entries folded that the step finds room
abbrev pub HasMadeRoom : Running → Running → ℕ → Ask → Type 0
HasMadeRoom old mid n a =
    (folds : ℕ) × AreNeeded old.state n a old.journal folds
    × (has_to_fold old.state n a (with_folds old.state folds old.journal) ≡ false)
    × (mid ≡ with_room old folds)

pub room_made : (old mid : Running) (n : ℕ) (a : Ask) → may_enter old.state n a ≡ true → mid.state ≡ old.state → mid.log ≡ old.log
    → FoldsWhileFull old.state old.journal mid.journal → is_full mid.journal ≡ false → HasMadeRoom old mid n a
room_made old mid n a may same log h vacant = (
  h.folds,
  needed old.state n a old.journal mid.journal may h,
  ap (λ b. b && may_enter old.state n a) (ap is_full (sym h.journal) ∙ vacant),
  λ i. record { state = same i; journal = h.journal i; log = log i },
)

pub room_there : (old mid : Running) (n : ℕ) (a : Ask) → has_to_fold old.state n a old.journal ≡ false → mid ≡ old → HasMadeRoom old mid n a
room_there old mid n a room is = (zero, λ k lt. absurd (omega (arith, lt)), room, is)

-- a step that is made from there
pub steps_to : {E : Type 0} (x : Result Reply E) (old mid new : Running) (n : ℕ) (a : Ask) → HasMadeRoom old mid n a
    → IfOk x (λ r. StepsFrom mid n a r new) → IfOk x (λ r. StepsTo old n a r new)
steps_to (Ok r) old mid new n a (folds, needed, enough, is) h = record {
  folds = folds;
  needed = needed;
  enough = enough;
  step = subst (λ (b : Running). StepsFrom b n a r new) is h;
}
steps_to (Err e) old mid new n a made h = tt

-- one that is refused there, or while room is made
pub may_fold : (old mid new : Running) (n : ℕ) (a : Ask) → HasMadeRoom old mid n a → new ≡ mid → MayFold old n a new
may_fold old mid new n a (folds, needed, enough, is) same = record {
  state = ap (λ (b : Running). b.state) (same ∙ is);
  log = ap (λ (b : Running). b.log) (same ∙ is);
  folds = folds;
  needed = needed;
  journal = ap (λ (b : Running). b.journal) (same ∙ is);
}

pub may_fold_some : (old new : Running) (n : ℕ) (a : Ask) → may_enter old.state n a ≡ true → new.state ≡ old.state → new.log ≡ old.log
    → FoldsWhileFull old.state old.journal new.journal → MayFold old n a new
may_fold_some old new n a may same log h = record {
  state = same;
  log = log;
  folds = h.folds;
  needed = needed old.state n a old.journal new.journal may h;
  journal = h.journal;
}

pub room_left : (seen : ℕ) (σ : State) (j : JournalView) → Holds seen σ j → is_full j ≡ false → length j.entries < j.limit
room_left seen σ j k h = let w = k.within in by (length j.entries == j.limit) (nat_le full_weight (weight_in j.entries) || nat_le j.most_bytes (bytes_in j.most_bytes j.entries)) refl h w
  where
    by : (a b : Bool) → (length j.entries == j.limit) ≡ a → (a || b) ≡ false → length j.entries ≤ j.limit → length j.entries < j.limit
    by true b e h w = cc
    by false b e h w = grind (arith, nat_tests)

-- ---- what is never refused

pub nothing_entered : (b c : Bool) → c ≡ false → (b && c) ≡ false
nothing_entered true c h = h
nothing_entered false c h = refl

pub never_refused : (σ : State) (n : ℕ) (j : JournalView) (s : Step) → is_never_refused s ≡ true → (takes_no_memory σ n (ask_of s) ≡ true) × ((is_full j && may_enter σ n (ask_of s)) ≡ false)
never_refused σ n j (Join none) h = elim none [ ]
never_refused σ n j Leave h = (refl, nothing_entered (is_full j) (may_enter σ n Leave) (session_never σ n Leave (λ b. refl)))
never_refused σ n j Take h = (refl, nothing_entered (is_full j) (may_enter σ n Take) (session_never σ n Take (λ b. refl)))
never_refused σ n j Retry h = cc
never_refused σ n j (DoCommand (command.Abort r)) h = (refl, nothing_entered (is_full j) (may_enter σ n (DoCommand (command.Abort r))) (session_never σ n (DoCommand (command.Abort r)) by))
  where
    by : (b : Bool) → Rattle.tab_model.specs.Standing.may_enter_session σ n (DoCommand (command.Abort r)) b ≡ false
    by true = refl
    by false = refl
never_refused σ n j (DoCommand (command.Schema c)) h = cc
never_refused σ n j (DoCommand (command.TableInfo t i)) h = cc
never_refused σ n j (DoCommand command.Begin) h = cc
never_refused σ n j (DoCommand command.Commit) h = cc
never_refused σ n j (DoCommand (command.Do o)) h = cc
never_refused σ n j (DoCommand (command.Subscribe t l dump)) h = cc
never_refused σ n j (DoCommand (command.Unsubscribe t l)) h = cc
never_refused σ n j (DoCommand (command.OneShot parts retries)) h = cc

-- ---- as the calls of a book say it

pub audits : {E : Type 0} (r : Result Bool E) (P : Type 0) → P → IfOk r (λ is. Decides is P) → IfOk r (λ is. is ≡ true)
audits (Ok b) P p h = h.1 p
audits (Err e) P p h = tt

-- whether or not memory was refused
pub fold_kept : {A E : Type 0} (r : Result A E) (seen : ℕ) (σ : State) (j now : JournalView) (joined : Bool) → Holds seen σ j → joined ≡ oldest_joined σ j.entries
    → OnOk r (now ≡ fold_oldest joined j) → OnErr r (now ≡ j) → Holds seen σ now
fold_kept (Ok x) seen σ j now joined k is ok err = subst (Holds seen σ) (ap (λ b. fold_oldest b j) (sym is) ∙ sym ok) (fold_holds seen σ j k)
fold_kept (Err e) seen σ j now joined k is ok err = subst (Holds seen σ) (sym err) k

-- a Take gives no entry
pub take_holds : (seen : ℕ) (σ : State) (j : JournalView) → Holds seen σ j → (over : List ℕ) (n : ℕ) (o : Outcome) → outcome σ over n Take ≡ o → IsSound o.state → Holds seen o.state j
take_holds seen σ j k over n o is sound =
    let none : entries o.entry ≡ [] = ap (λ (x : Outcome). entries x.entry) (sym is) ∙ ap entries (enters_none σ over n Take (session_never σ n Take (λ b. refl))) in
    subst (Holds seen o.state) (ap (with_entries j) none ∙ (λ i. record j { entries = append-nil j.entries i }))
    (step_holds seen σ j k over n Take o is tt sound (λ some. absurd (some none)))

-- ---- a step that was made, with its entry and its leaving

module _ (seen : ℕ) (σ : State) (j : JournalView) (k : Holds seen σ j) (over : List ℕ) (n : ℕ) (a : Ask) (o : Outcome) (is : outcome σ over n a ≡ o) (joins : JoinsBook seen a) where
  pub made_holds : IsSound o.state → (may_enter σ n a ≡ true → length j.entries < j.limit) → (entered now : JournalView) → entered ≡ with_entries j (entries o.entry)
      → (b : Bool) → b ≡ leaves σ n a → now ≡ (if b then forget entered n else entered) → Holds seen o.state now
  made_holds sound room entered now e b l f = by b l (subst (Holds seen o.state) (sym e) (step_holds seen σ j k over n a o is joins sound (one_fits σ over n a o (length j.entries < j.limit) is room))) f
    where
      by : (b : Bool) → b ≡ leaves σ n a → Holds seen o.state entered → now ≡ (if b then forget entered n else entered) → Holds seen o.state now
      by true l h f = subst (Holds seen o.state) (sym f) (forget_holds seen o.state entered n (gone l) h)
        where
          gone : true ≡ leaves σ n a → MayFollow o.state n → ⊥
          gone l = of_leave a is l
            where
              of_leave : (a : Ask) → outcome σ over n a ≡ o → true ≡ leaves σ n a → MayFollow o.state n → ⊥
              of_leave Leave q l = leaver_gone σ over n o k.sound (sym l) q
              of_leave (Join b) q l = cc
              of_leave Retry q l = cc
              of_leave Take q l = cc
              of_leave (DoCommand c) q l = cc
      by false l h f = subst (Holds seen o.state) (sym f) h

  pub made_steps : Allowed σ over n a → (entered now : JournalView) → entered ≡ with_entries j (entries o.entry) → (b : Bool) → b ≡ leaves σ n a → now ≡ (if b then forget entered n else entered)
      → (log all : List Made) → all ≡ log ++ made n a o.reply ∷ []
      → StepsFrom (record { state = σ; journal = j; log = log }) n a o.reply (record { state = o.state; journal = now; log = all })
  made_steps allowed entered now e b l f log all logged = record {
    over = over;
    entry = o.entry;
    allowed = allowed;
    core = is;
    entered = f ∙ (λ i. if l i then forget (e i) n else e i);
    logged = logged;
    sent = step_sent seen σ j k over n a o is joins;
  }

-- a session's own step joins no one
pub own_ask : (seen : ℕ) (s : Step) → JoinsBook seen (ask_of s)
own_ask seen (Join none) = elim none [ ]
own_ask seen Leave = tt
own_ask seen (DoCommand c) = tt
own_ask seen Retry = tt
own_ask seen Take = tt

-- ---- the next number joins

pub joins_made : (σ : State) (over : List ℕ) (n : ℕ) (b : Outbox) → IsSound σ → has_free_seat σ ≡ true → n ≡ σ.greatest + 1 → outcome σ over n (Join b) ≡ step_without_entry (with_new_session σ n b) reply.Done
unfolding outcome
joins_made σ over n b sound room is = by (session_at σ.sessions n) refl
  where
    above : nat_lt σ.greatest n ≡ true
    above = grind (arith, nat_tests)

    by : (o : Option Session) → session_at σ.sessions n ≡ o → step_of σ over n (Join b) o ≡ step_without_entry (with_new_session σ n b) reply.Done
    by None e = λ i. join_if σ n b (above i) ((and_parts (nat_lt σ.greatest (2 ^ 32 - 1)) (nat_lt (length σ.sessions) σ.limits.sessions) room).1 i)
    by (Some s) e = let le = sound.joined n s e in absurd (omega (arith, le, is))

pub join_holds : (seen : ℕ) (σ : State) (j : JournalView) → Holds seen σ j → (over : List ℕ) (n : ℕ) (b : Outbox) (o : Outcome) → outcome σ over n (Join b) ≡ o → JoinsBook seen (Join b) → IsSound o.state → Holds seen o.state j
join_holds seen σ j k over n b o is new sound =
    let none : entries o.entry ≡ [] = ap (λ (x : Outcome). entries x.entry) (sym is) ∙ ap entries (enters_none σ over n (Join b) (session_never σ n (Join b) (λ c. refl))) in
    subst (Holds seen o.state) (ap (with_entries j) none ∙ (λ i. record j { entries = append-nil j.entries i }))
    (step_holds seen σ j k over n (Join b) o is new sound (λ some. absurd (some none)))

-- of a mailbox with a place that was not seen before
pub new_post : (seen : ℕ) (b : Outbox) (m : ℕ) → b ≡ empty_outbox m → m < seen → JoinsBook seen (Join b)
new_post seen b m is within = ((ap (λ (x : Outbox). x.capacity) is, ap (λ (x : Outbox). x.items) is), subst (λ (x : Option ℕ). IfSome x (λ place. place < seen)) (sym (ap (λ (x : Outbox). x.mailbox) is)) within)

-- more of the register is seen
pub holds_more : (seen more : ℕ) (σ : State) (j : JournalView) → seen ≤ more → Holds seen σ j → Holds more σ j
holds_more seen more σ j le k = record { limit = k.limit; most_bytes = k.most_bytes; within = k.within; sound = k.sound; rising = k.rising; places = by σ.sessions k.places; past = k.past; stands = k.stands }
  where
    one : (m : Option ℕ) → IfSome m (λ place. place < seen) → IfSome m (λ place. place < more)
    one None h = h
    one (Some place) h = omega (arith, h, le)

    by : (ss : List Session) → AllByRecursion (λ (s : Session). IfSome s.outbox.mailbox (λ place. place < seen)) ss → AllByRecursion (λ (s : Session). IfSome s.outbox.mailbox (λ place. place < more)) ss
    by [] h = tt
    by (s ∷ ss) h = (one s.outbox.mailbox h.0, by ss h.1)

pub unseen : (seen : ℕ) (σ : State) (m : ℕ) → HavePlaces seen σ → seen ≤ m → (n : ℕ) (s : Session) → session_at σ.sessions n ≡ Some s → s.outbox.mailbox ≢ Some m
unseen seen σ m places le n s here same = let h = subst (λ (x : Option ℕ). IfSome x (λ place. place < seen)) same (found_has (HasPlace seen) σ.sessions n s places here) in absurd (omega (arith, h, le))

pub join_posts : (σ : State) (n : ℕ) (b : Outbox) → IsSound σ → has_free_seat σ ≡ true → n ≡ σ.greatest + 1 → KeepsPosts σ (with_new_session σ n b)
join_posts σ n b sound room is m s x g h = post_stays σ sound [] n (Join b) m s x g (ap (λ (o : Outcome). session_at o.state.sessions m) (joins_made σ [] n b sound room is) ∙ h)

pub keeps_own : (σ : State) → KeepsPosts σ σ
keeps_own σ m s r g h = (cc, cc)

-- the next number has joined with a mailbox whose place was not seen before
pub joined_holds : (seen more : ℕ) (σ τ : State) (j : JournalView) → Holds seen σ j → has_free_seat σ ≡ true → (n : ℕ) → n ≡ σ.greatest + 1 → (b : Outbox) (m : ℕ) → b ≡ empty_outbox m → seen ≤ m → m < more
    → τ ≡ with_new_session σ n b → IsSound τ → Holds more τ j
joined_holds seen more σ τ j k room n is b m new le within made sound =
    subst (λ (x : State). Holds more x j) (sym made)
    (join_holds more σ j (holds_more seen more σ j (omega (arith, le, within)) k) [] n b (step_without_entry (with_new_session σ n b) reply.Done) (joins_made σ [] n b k.sound room is) (new_post more b m new within) (subst IsSound made sound))
