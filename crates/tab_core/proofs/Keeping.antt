-- What a session is answered, and what keeps the parts in agreement.
use Rattle.std.proofs.Common.{◌≡◌, ◌≢◌, ℕ, zero, suc, take, ◌+◌, ◌<◌, ◌≤◌, List, [], ◌∷◌, ◌++◌, Bool, true, false, ◌&&◌, ◌||◌, not, refl, sym, ap, ◌∙◌, subst, arith, length, Option, Some, None, get_or, set}
use Rattle.std.specs.Prelude.{IfSome, OnErr, Result, Ok, Err, ◌==◌, if◌then◌else◌, is_some, map, option_map}
use Rattle.std.specs.List.{list_any, filter}
use Rattle.std.proofs.lemmas.Bool.{or_parts}
use Rattle.std.proofs.lemmas.List.{length-set}
use Rattle.std.specs.Global.{Vec}
use Rattle.tab_model.specs.Ages as Plain
use Rattle.tab_locks.specs.Members.{SameMembers}
use Rattle.tab_locks.specs.Placed.{placed}
use Rattle.tab_locks.proofs.Listing.{any_placed}
use Rattle.tab_model.specs.declared.data.Command.{Command}
use Rattle.tab_model.specs.declared.data.Entry.{Entry}
use Rattle.tab_model.specs.declared.data.Reply.{Reply}
use Rattle.tab_model.specs.Ages.{Owned, without, request_of, forget}
use Rattle.tab_model.specs.Alone.{start, replies}
use Rattle.tab_model.specs.Locks.{needs}
use Rattle.tab_model.specs.Catalogs.{Catalog}
use Rattle.tab_model.specs.State as plain
use Rattle.tab_model.specs.State.{Session, State, Queued, session_at, transaction_at, request_in, without_request, is_waiting, locks_held_by, locks_held_in, locks_queued_in, mid_of, IsSound}
use Rattle.tab_model.specs.declared.ask.Ask.TheVariants.{Do as DoCommand}
use Rattle.tab_model.specs.Outcome.{Ask, outcome, step_of, step_of_stranger, step_of_joined, do_command, is_abort, step_without_entry, with_changed}
use Rattle.tab_model.proofs.StepCases.{command_if}
use Rattle.tab_model.proofs.SessionLists.{eq_true, other_number}
use Rattle.tab_model.proofs.SoundSteps.{step_sound}
use Rattle.tab_model.proofs.RefusalLaws.{none_queued}
use Rattle.tab_model.specs.Reached.{IsRising}
use Rattle.tab_model.proofs.ReachedWaits.{step_rising, Match, match_of, without_match}
use Rattle.tab_txstore.specs.Stores.{Fits}
use Rattle.tab_txstore.proofs.FitsLemmas.{depth_shown}
use Rattle.tab_core.specs.declared.transaction.Transaction as kept
use Rattle.tab_waitdie.proofs.Places.{map_filtered}
use Rattle.tab_core.specs.declared.queue.Request as request
use Rattle.tab_core.specs.Kept.{opens, count_open, Agree, IsKept}
use Rattle.tab_core.proofs.HeldLocks.{same_without, held_same, held_more, held_none_left, held_gone}
use Rattle.tab_core.proofs.Places.{at_of, change_of, counts}
use Rattle.tab_subs.specs.Subscribers.{IsHeldAt, at, nobody}
use Rattle.tab_core.specs.Joined.{Subscriber}
use Rattle.tab_core.specs.Parts.{Parts, queued_of, session_of, state_of, transaction_in, transaction_of}

-- ---- what is answered

pub sits : (σ : State) (n : ℕ) (s : Session) (a : Ask) → session_at σ.sessions n ≡ Some s → outcome σ [] n a ≡ step_of_joined σ [] s a
unfolding outcome
sits σ n s a here = ap (step_of σ [] n a) here

pub strange : (σ : State) (n : ℕ) (a : Ask) → session_at σ.sessions n ≡ None → outcome σ [] n a ≡ step_of_stranger σ n a
unfolding outcome
strange σ n a here = ap (step_of σ [] n a) here

pub idles : (σ : State) (n : ℕ) (s : Session) (c : Command) → session_at σ.sessions n ≡ Some s → s.number ≡ n → is_waiting σ n ≡ false → outcome σ [] n (DoCommand c) ≡ do_command σ [] s c
idles σ n s c here is idle = sits σ n s (DoCommand c) here ∙ ap (λ b. command_if σ [] s c (b && not (is_abort c))) (ap (is_waiting σ) is ∙ idle)

-- ---- steps keep

pub kept_step : (m m' : Parts) (n : ℕ) (a : Ask) (r : Reply) (e : Option Entry) → IsKept m → Agree m' → outcome (state_of m) [] n a ≡ record { state = state_of m'; reply = r; entry = e } → IsKept m'
kept_step m m' n a r e k agree h =
    let same : (outcome (state_of m) [] n a).state ≡ state_of m' = ap (λ o. o.state) h in
    let rising : IsRising (state_of m') = subst IsRising same (step_rising (state_of m) [] n a k.sound (record { rises = k.rises; owners = k.owners })) in
    record { agree = agree; sound = subst IsSound same (step_sound (state_of m) [] n a k.sound); rises = rising.rises; owners = rising.owners }

pub kept_same : (m m' : Parts) → IsKept m → Agree m' → state_of m' ≡ state_of m → IsKept m'
kept_same m m' k agree same = record {
  agree = agree;
  sound = subst IsSound (sym same) k.sound;
  rises = subst (λ σ. Rattle.tab_model.specs.Ages.Rises (plain.ages_of σ)) (sym same) k.rises;
  owners = subst (λ (σ : State). plain.OwnedBy (transaction_at σ) σ.queue) (sym same) k.owners;
}

-- ---- the parts after a step: the tables, the sessions and the queue may be others

pub record IsNext (m m' : Parts) (ss : List Subscriber) (qs : List request.Request) : Type 0 where
  pub catalog : m'.catalog ≡ m.catalog
  pub sessions : m'.sessions ≡ ss
  pub queue : m'.queue.items ≡ qs
  pub limits : m'.limits ≡ m.limits
  pub begun : m'.begun ≡ m.begun
  pub commits : m'.commits ≡ m.commits
  pub greatest : m'.greatest ≡ m.greatest

abbrev pub state_after : Parts → List Subscriber → List request.Request → State
state_after m ss qs = record (state_of m) { sessions = map session_of ss; queue = map queued_of qs }

pub state_next : (m m' : Parts) (ss : List Subscriber) (qs : List request.Request) → IsNext m m' ss qs → state_after m ss qs ≡ state_of m'
state_next m m' ss qs x = λ i. record {
  tables = sym x.catalog i;
  sessions = map session_of (sym x.sessions i);
  queue = map queued_of (sym x.queue i);
  next_age = sym x.begun i + 1;
  commits = sym x.commits i;
  greatest = sym x.greatest i;
  limits = sym x.limits i;
}

-- the machine with other sessions, locks and requests
abbrev pub parts : Parts → List Subscriber → Plain.Ages → Vec request.Request → Parts
parts m ss g qs = record m { sessions = ss; ages = g; queue = qs }

-- what a step without an entry leaves
abbrev pub Leaves : Parts → Parts → ℕ → Ask → Reply → Type 0
Leaves m m' n a r = (outcome (state_of m) [] n a ≡ step_without_entry (state_of m') r) × IsKept m'

pub leaves : (m m' : Parts) (ss : List Subscriber) (qs : List request.Request) (n : ℕ) (a : Ask) (r : Reply) → IsKept m → IsNext m m' ss qs → outcome (state_of m) [] n a ≡ step_without_entry (state_after m ss qs) r → Agree m' → Leaves m m' n a r
leaves m m' ss qs n a r k x h agree = let e = h ∙ ap (λ τ. step_without_entry τ r) (state_next m m' ss qs x) in (e, kept_step m m' n a r None k agree e)

-- ---- one session's requests

pub queued_filtered : (n : ℕ) (qs : List request.Request) → map queued_of (filter (λ q. not (q.session == n)) qs) ≡ without_request (map queued_of qs) n
queued_filtered n qs = map_filtered queued_of (λ q. not (q.session == n)) qs

-- who has no transaction waits for nothing
pub none_waits : (f : ℕ → Option plain.Transaction) (n : ℕ) (qs : List Queued) → f n ≡ None → plain.OwnedBy f qs → without_request qs n ≡ qs
none_waits f n [] h o = refl
none_waits f n (q ∷ qs) h o = by (q.session == n) refl (none_waits f n qs h o.1)
  where
    by : (b : Bool) → (q.session == n) ≡ b → without_request qs n ≡ qs → (if not b then q ∷ without_request qs n else without_request qs n) ≡ q ∷ qs
    by true e ih = absurd (subst (λ x. plain.HasAge x q.age) (ap f (eq_true q.session n e) ∙ h) o.0)
    by false e ih = ap (λ xs. q ∷ xs) ih

none_match : (n a : ℕ) (qs : List Queued) → Match n a qs → is_some (request_in qs n) ≡ false → request_of a (locks_queued_in qs) ≡ None
none_match n a [] m h = refl
none_match n a (q ∷ qs) m h = by (q.age == a) (ap (λ b. is_some (if b then Some q else request_in qs n)) (sym m.0) ∙ h) (none_match n a qs m.1)
  where
    by : (b : Bool) → is_some (if b then Some q else request_in qs n) ≡ false → (is_some (request_in qs n) ≡ false → request_of a (locks_queued_in qs) ≡ None) → (if b then Some (q.age, needs q.operation) else request_of a (locks_queued_in qs)) ≡ None
    by true g ih = cc
    by false g ih = ih g

pub request_there : (n : ℕ) (qs : List request.Request) (i : ℕ) (q : request.Request) → i < length qs → list_any (λ x. x.session == n) (take i qs) ≡ false → q ≡ get_or qs i q → (q.session == n) ≡ true → request_in (map queued_of qs) n ≡ Some (queued_of q)
request_there n [] i q lt none is here = absurd (omega arith)
request_there n (x ∷ qs) zero q lt none is here = (λ j. if (ap (λ (v : request.Request). v.session == n) (sym is) ∙ here) j then Some (queued_of x) else request_in (map queued_of qs) n) ∙ ap (λ v. Some (queued_of v)) (sym is)
request_there n (x ∷ qs) (suc i) q lt none is here =
    let p = or_parts (x.session == n) (list_any (λ v. v.session == n) (take i qs)) none in
    (λ j. if p.0 j then Some (queued_of x) else request_in (map queued_of qs) n) ∙ request_there n qs i q (omega arith) p.1 is here

pub request_nowhere : (n : ℕ) (qs : List request.Request) (i : ℕ) → length qs ≤ i → list_any (λ x. x.session == n) (take i qs) ≡ false → request_in (map queued_of qs) n ≡ None
request_nowhere n [] i le none = refl
request_nowhere n (x ∷ qs) zero le none = absurd (omega arith)
request_nowhere n (x ∷ qs) (suc i) le none =
    let p = or_parts (x.session == n) (list_any (λ v. v.session == n) (take i qs)) none in
    (λ j. if p.0 j then Some (queued_of x) else request_in (map queued_of qs) n) ∙ request_nowhere n qs i (omega arith) p.1

set_itself : (ss : List Subscriber) (i : ℕ) (s : Subscriber) → s ≡ get_or ss i s → set ss i s ≡ ss
set_itself [] i s h = refl
set_itself (x ∷ ss) zero s h = ap (λ y. y ∷ ss) h
set_itself (x ∷ ss) (suc i) s h = ap (λ ys. x ∷ ys) (set_itself ss i s h)

-- ---- a session at its place

same_some : {x y : Subscriber} → Some x ≡ Some y → x ≡ y
same_some h = cc

-- the session with this transaction, or with none
abbrev pub with_transaction : Subscriber → Option kept.Transaction → Subscriber
with_transaction s t = record s { transaction = t }

abbrev pub ended : Subscriber → Subscriber
ended s = with_transaction s None

-- what is said of an open transaction
pub if_some : {T : Type 0} (P : T → Type 0) (o : Option T) (t : T) → o ≡ Some t → IfSome o P → P t
if_some P o t e h = subst (λ x. IfSome x P) e h

abbrev pub the_session : Parts → ℕ → ℕ → Subscriber
the_session m n i = get_or m.sessions i nobody

pub at_place : (m : Parts) (n i : ℕ) → IsHeldAt m.sessions n i → the_session m n i ≡ get_or m.sessions i (the_session m n i)
at_place m n i there = same_some (sym (there.slot nobody) ∙ there.slot (the_session m n i))

pub none_of : {T : Type 0} (o : Option T) → is_some o ≡ false → o ≡ None
none_of None h = refl
none_of (Some x) h = cc

pub some_of : {T : Type 0} (o : Option T) → is_some o ≡ true → (x : T) × (o ≡ Some x)
some_of None h = cc
some_of (Some x) h = (x, refl)

pub always : {T E : Type 0} {P : Type 0} (r : Result T E) → P → OnErr r P
always (Ok x) p = tt
always (Err e) p = p

module _ (m : Parts) (n i : ℕ) (k : IsKept m) (there : IsHeldAt m.sessions n i) where
  abbrev s : Subscriber
  s = the_session m n i

  abbrev σ : State
  σ = state_of m

  pub is : s.number ≡ n
  is = ap (λ (x : Subscriber). x.number) (at_place m n i there) ∙ there.number s

  at_n : at m.sessions n ≡ Some s
  at_n = there.slot s ∙ ap Some (sym (at_place m n i there))

  pub here : session_at (map session_of m.sessions) n ≡ Some (session_of s)
  here = at_of m.sessions n ∙ ap (option_map session_of) at_n

  -- the session in its own place
  pub unchanged : set m.sessions i s ≡ m.sessions
  unchanged = set_itself m.sessions i s (at_place m n i there)

  pub asks : (c : Command) → is_waiting σ n ≡ false → outcome σ [] n (DoCommand c) ≡ do_command σ [] (session_of s) c
  asks c idle = idles σ n (session_of s) c here is idle

  -- its open transaction
  module _ (t : kept.Transaction) (open_t : s.transaction ≡ Some t) where
    pub mine : transaction_at σ n ≡ Some (transaction_of t)
    mine = ap plain.transaction_in here ∙ ap (option_map transaction_of) open_t

    pub fit : Fits t.store m.catalog
    fit = k.agree.fits n t (ap transaction_in at_n ∙ open_t)

    pub right : replies (start m.catalog t.age) t.store.moves ≡ t.store.told
    right = subst (λ (o : Option plain.Transaction). replies (start m.catalog (plain.age_in o)) (plain.moves_in o) ≡ plain.replies_in o) mine (k.sound.told n)

    pub depth : length (mid_of σ (transaction_of t)).saved ≡ length t.store.levels.saved
    depth = depth_shown m.catalog k.sound.ordered t.store t.age fit right

    matches : Match n t.age (map queued_of m.queue.items)
    matches = match_of σ n (transaction_of t) (map queued_of m.queue.items) k.sound mine k.owners

    -- its request goes from both queues
    pub dropped : without t.age m.ages.queue ≡ locks_queued_in (map queued_of (filter (λ q. not (q.session == n)) m.queue.items))
    dropped = ap (without t.age) k.agree.queue ∙ sym (without_match n t.age (map queued_of m.queue.items) matches) ∙ ap locks_queued_in (sym (queued_filtered n m.queue.items))

    pub not_queued : is_waiting σ n ≡ false → without t.age m.ages.queue ≡ m.ages.queue
    not_queued idle = dropped ∙ ap locks_queued_in (queued_filtered n m.queue.items ∙ none_queued (map queued_of m.queue.items) n idle) ∙ sym k.agree.queue

    pub not_requested : is_waiting σ n ≡ false → request_of t.age m.ages.queue ≡ None
    not_requested idle = ap (request_of t.age) k.agree.queue ∙ none_match n t.age (map queued_of m.queue.items) matches idle

  -- ---- the session becomes another
  module _ (s' : Subscriber) (is' : s'.number ≡ s.number) where
    number' : s'.number ≡ n
    number' = is' ∙ is

    pub seats' : map session_of (set m.sessions i s') ≡ with_changed (map session_of m.sessions) (session_of s')
    seats' = ap (map session_of) (sym (there.changed s' number')) ∙ sym (change_of m.sessions s')

    pub fits' : (w : Catalog) → ((q : ℕ) (t : kept.Transaction) → q ≢ n → transaction_in (at m.sessions q) ≡ Some t → Fits t.store w) → ((t : kept.Transaction) → s'.transaction ≡ Some t → Fits t.store w)
        → (q : ℕ) (t : kept.Transaction) → transaction_in (at (set m.sessions i s') q) ≡ Some t → Fits t.store w
    fits' w others own q t h = by (q == n) refl (sym (ap transaction_in (there.replaced s' number' q)) ∙ h)
      where
        by : (b : Bool) → (q == n) ≡ b → transaction_in (if b then Some s' else at m.sessions q) ≡ Some t → Fits t.store w
        by true e g = own t g
        by false e g = others q t (other_number q n e) g

    pub counts' : count_open (set m.sessions i s') + opens s.transaction ≡ count_open m.sessions + opens s'.transaction
    counts' = ap (λ x. count_open (set m.sessions i s') + opens x) (ap (λ (x : Subscriber). x.transaction) (at_place m n i there)) ∙ counts m.sessions i s' s there.within

    pub same_locks : locks_held_by (session_of s').transaction ≡ locks_held_by (session_of s).transaction → SameMembers (locks_held_in (map session_of (set m.sessions i s'))) m.ages.held
    same_locks h p = k.agree.held p ∙ sym (ap (λ xs. list_any p (locks_held_in xs)) seats' ∙ held_same (map session_of m.sessions) n (session_of s) (session_of s') k.sound.distinct here is number' h p)

    pub one_more_lock : (r : Owned) → locks_held_by (session_of s').transaction ≡ locks_held_by (session_of s).transaction ++ r ∷ [] → SameMembers (locks_held_in (map session_of (set m.sessions i s'))) (placed r m.ages.held)
    one_more_lock r h p =
        any_placed p r m.ages.held ∙ ap (λ b. p r || b) (k.agree.held p)
        ∙ sym (ap (λ xs. list_any p (locks_held_in xs)) seats' ∙ held_more (map session_of m.sessions) n (session_of s) (session_of s') k.sound.distinct here is number' r h p)

    pub no_locks : (t : kept.Transaction) → s.transaction ≡ Some t → locks_held_by (session_of s').transaction ≡ [] → SameMembers (locks_held_in (map session_of (set m.sessions i s'))) (without t.age m.ages.held)
    no_locks t open_t h p =
        same_without t.age (locks_held_in (map session_of m.sessions)) m.ages.held k.agree.held p
        ∙ sym (held_gone σ n (session_of s) (transaction_of t) k.sound here is (ap (option_map transaction_of) open_t) p)
        ∙ sym (ap (λ xs. list_any p (locks_held_in xs)) seats' ∙ held_none_left (map session_of m.sessions) n (session_of s) (session_of s') k.sound.distinct here is number' h p)

    -- all parts agree, where the session is the other
    pub session_agrees : (m' : Parts) → m'.catalog ≡ m.catalog → m'.sessions ≡ set m.sessions i s' → m'.limits ≡ m.limits
        → SameMembers (locks_held_in (map session_of (set m.sessions i s'))) m'.ages.held → m'.ages.queue ≡ locks_queued_in (map queued_of m'.queue.items)
        → ((t : kept.Transaction) → s'.transaction ≡ Some t → Fits t.store m.catalog)
        → m'.begun ≤ m.limits.ages → m'.commits + count_open (set m.sessions i s') ≤ m'.begun → Agree m'
    session_agrees m' catalog sessions limits held queue own ages counted = record {
      held = subst (λ ss. SameMembers (locks_held_in (map session_of ss)) m'.ages.held) (sym sessions) held;
      queue = queue;
      fits = λ q t h. subst (Fits t.store) (sym catalog) (fits' m.catalog (λ p u _ g. k.agree.fits p u g) own q t (ap (λ ss. transaction_in (at ss q)) (sym sessions) ∙ h));
      ages = subst (λ (l : Rattle.tab_model.specs.declared.data.Limits.Limits). m'.begun ≤ l.ages) (sym limits) ages;
      counted = subst (λ ss. m'.commits + count_open ss ≤ m'.begun) (sym sessions) counted;
      word = subst (λ (l : Rattle.tab_model.specs.declared.data.Limits.Limits). l.ages < 18446744073709551616) (sym limits) k.agree.word;
      sessions = subst (λ (l : Rattle.tab_model.specs.declared.data.Limits.Limits). l.sessions ≤ 64) (sym limits) k.agree.sessions;
      room = subst (λ ss. length ss ≤ 64) (sym sessions) (subst (λ l. l ≤ 64) (sym (length-set m.sessions i s')) k.agree.room);
    }

-- ---- who watches has no part in it

-- the same sessions, each with the same transaction
abbrev pub SameKeys : List Subscriber → List Subscriber → Type 0
SameKeys [] [] = Unit {0}
SameKeys [] (y ∷ ys) = ⊥
SameKeys (x ∷ xs) [] = ⊥
SameKeys (x ∷ xs) (y ∷ ys) = (x.number ≡ y.number) × (x.transaction ≡ y.transaction) × SameKeys xs ys

keys_held : (xs ys : List Subscriber) → SameKeys xs ys → locks_held_in (map session_of ys) ≡ locks_held_in (map session_of xs)
keys_held [] [] k = refl
keys_held [] (y ∷ ys) k = absurd k
keys_held (x ∷ xs) [] k = absurd k
keys_held (x ∷ xs) (y ∷ ys) k = λ i. locks_held_by (option_map transaction_of (sym k.1 i)) ++ keys_held xs ys k.2 i

keys_count : (xs ys : List Subscriber) → SameKeys xs ys → count_open ys ≡ count_open xs
keys_count [] [] k = refl
keys_count [] (y ∷ ys) k = absurd k
keys_count (x ∷ xs) [] k = absurd k
keys_count (x ∷ xs) (y ∷ ys) k = λ i. opens (sym k.1 i) + keys_count xs ys k.2 i

keys_at : (xs ys : List Subscriber) → SameKeys xs ys → (n : ℕ) → transaction_in (at ys n) ≡ transaction_in (at xs n)
keys_at [] [] k n = refl
keys_at [] (y ∷ ys) k n = absurd k
keys_at (x ∷ xs) [] k n = absurd k
keys_at (x ∷ xs) (y ∷ ys) k n = ap (λ a. transaction_in (if a == n then Some y else at ys n)) (sym k.0) ∙ by (x.number == n) (keys_at xs ys k.2 n)
  where
    by : (b : Bool) → transaction_in (at ys n) ≡ transaction_in (at xs n) → transaction_in (if b then Some y else at ys n) ≡ transaction_in (if b then Some x else at xs n)
    by true ih = sym k.1
    by false ih = ih

keys_length : (xs ys : List Subscriber) → SameKeys xs ys → length ys ≡ length xs
keys_length [] [] k = refl
keys_length [] (y ∷ ys) k = absurd k
keys_length (x ∷ xs) [] k = absurd k
keys_length (x ∷ xs) (y ∷ ys) k = ap suc (keys_length xs ys k.2)

pub watched_agrees : (m : Parts) (ss : List Subscriber) → SameKeys m.sessions ss → Agree m → Agree (record m { sessions = ss })
watched_agrees m ss k a = record {
  held = subst (λ xs. SameMembers xs m.ages.held) (sym (keys_held m.sessions ss k)) a.held;
  queue = a.queue;
  fits = λ n t h. a.fits n t (sym (keys_at m.sessions ss k n) ∙ h);
  ages = a.ages;
  counted = subst (λ c. m.commits + c ≤ m.begun) (sym (keys_count m.sessions ss k)) a.counted;
  word = a.word;
  sessions = a.sessions;
  room = subst (λ l. l ≤ 64) (sym (keys_length m.sessions ss k)) a.room;
}

-- a step that changes who watches what, and what the posts have, after the machine's part of it
pub kept_put : (m μ : Parts) (ss : List Subscriber) (over : List ℕ) (n : ℕ) (a : Ask) (r : Reply) (e : Option Entry) → IsKept m → Agree μ → SameKeys μ.sessions ss
    → outcome (state_of m) over n a ≡ record { state = state_of (record μ { sessions = ss }); reply = r; entry = e } → IsKept (record μ { sessions = ss })
kept_put m μ ss over n a r e k agree same h =
    let state : (outcome (state_of m) over n a).state ≡ state_of (record μ { sessions = ss }) = ap (λ o. o.state) h in
    let rising : IsRising (state_of (record μ { sessions = ss })) = subst IsRising state (step_rising (state_of m) over n a k.sound (record { rises = k.rises; owners = k.owners })) in
    record { agree = watched_agrees μ ss same agree; sound = subst IsSound state (step_sound (state_of m) over n a k.sound); rises = rising.rises; owners = rising.owners }
