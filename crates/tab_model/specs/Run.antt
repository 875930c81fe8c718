-- Which posts refuse, runs, and what a run says of the last state (this project's own).
use Rattle.std.specs.Prelude.{◌≡◌, ℕ, ◌+◌, ◌<◌, List, [], ◌∷◌, ◌++◌, Bool, false, not, ◌||◌, ◌⊎◌, map, ◌==◌, nat_le, if◌then◌else◌, Option, Some, None, is_some, length}
use Rattle.std.specs.List.{filter}
use Rattle.tab_model.specs.declared.data.Reply.{Reply}
use Rattle.tab_model.specs.declared.data.Reply.TheVariants as reply
use Rattle.tab_model.specs.declared.data.Item.{Item}
use Rattle.tab_model.specs.declared.data.Level.{Level}
use Rattle.tab_model.specs.declared.data.Schema.{Schema}
use Rattle.tab_model.specs.declared.data.Command.{Command}
use Rattle.tab_model.specs.declared.data.Command.TheVariants as command
use Rattle.tab_model.specs.declared.data.Entry.{Entry}
use Rattle.tab_model.specs.Schemas.{table_of_schema, schema_refusal, removed_table}
use Rattle.tab_model.specs.Log.{serial, in_force, commits_from, IsLegal}
use Rattle.tab_model.specs.Slices.{slice}
use Rattle.tab_model.specs.Since.{AllWereInForce, AllAged, RowsSince}
use Rattle.tab_model.specs.Catalogs.{rows_of}
use Rattle.tab_model.specs.State.{Transaction, Session, State, session_at, is_waiting, is_busy, level_in, mid_of}
use Rattle.tab_model.specs.Reached.{AreAged}
use Rattle.tab_model.specs.declared.ask.Ask.TheVariants.{Join, Leave, Retry, Take, Do as DoCommand}
use Rattle.tab_model.specs.Outcome.{Ask, Outcome, outcome, is_empty, batch_to, end_to, events_now, subscribe_refusal, is_at}

-- those whose posts are handed an item in a step
-- who watches what an outermost commit changes; none by a child's
abbrev pub put_commit : State → Option Transaction → List Session
put_commit σ None = []
put_commit σ (Some transaction) = if is_empty (mid_of σ transaction).saved then filter (λ x. not (is_empty (batch_to (σ.commits + 1) (events_now σ transaction) x))) σ.sessions else []

-- those whom a schema command hands an end marker: who watches the table that it deletes; none where it is refused
abbrev pub put_schema : State → Schema → Option Transaction → List Session
put_schema σ c (Some transaction) = []
put_schema σ c None =
    if is_some (schema_refusal σ.tables c) || is_busy σ (table_of_schema c) then [] else filter (λ x. not (is_empty (end_to (removed_table c) x))) σ.sessions

-- those whom a command hands an item: who watches, by a commit or a deletion; the asker, by a subscription or its end
abbrev pub put_command : State → Session → Command → List Session
put_command σ s (command.Schema c) = put_schema σ c s.transaction
put_command σ s command.Commit = put_commit σ s.transaction
put_command σ s (command.Subscribe t l dump) = if is_some (subscribe_refusal σ s t) then [] else s ∷ []
put_command σ s (command.Unsubscribe t l) = if is_at (level_in s.watching t) l then s ∷ [] else []
put_command σ s c = []

-- those whom a step hands an item: none but by a command of a joined session that does not wait
abbrev pub put_ask : State → Ask → Option Session → List Session
put_ask σ (DoCommand c) (Some s) = if is_waiting σ s.number then [] else put_command σ s c
put_ask σ a s = []

-- some sessions of a list, each once and in their order
abbrev pub IsSublist : List Session → List Session → Type 0
IsSublist [] ys = Unit {0}
IsSublist (x ∷ xs) [] = ⊥
IsSublist (x ∷ xs) (y ∷ ys) = ((x ≡ y) × IsSublist xs ys) ⊎ IsSublist (x ∷ xs) ys

-- its post has a capacity that is known
abbrev pub has_capacity : Session → Bool
has_capacity s = is_some s.outbox.capacity

-- these items fill the capacity, where one is known
abbrev pub is_filled : List Item → Option ℕ → Bool
is_filled items None = false
is_filled items (Some capacity) = nat_le capacity (length items)

-- its post has a capacity that is known, and is full
abbrev pub is_full : Session → Bool
is_full s = is_filled s.outbox.items s.outbox.capacity

-- those who refuse are some of those who were handed an item, each once and in order; and of those
-- with a known capacity exactly the full refuse
pub record IsSplitByOverflow (handed : List Session) (over : List ℕ) : Type 0 where
  pub refusers : List Session
  pub numbers : over ≡ map (λ s. s.number) refusers
  pub among : IsSublist refusers handed
  pub full : filter has_capacity refusers ≡ filter is_full handed

-- the sessions whose posts may refuse in a step
abbrev pub Allowed : State → List ℕ → ℕ → Ask → Type 0
Allowed σ over n a = IsSplitByOverflow (put_ask σ a (session_at σ.sessions n)) over

-- a session joins with an empty post (the caller's condition)
abbrev pub JoinsEmpty : Ask → Type 0
JoinsEmpty (Join b) = b.items ≡ []
JoinsEmpty Leave = Unit {0}
JoinsEmpty Retry = Unit {0}
JoinsEmpty Take = Unit {0}
JoinsEmpty (DoCommand c) = Unit {0}

-- a step of a run: who asks, and what
pub record Call : Type 0 where
  pub session : ℕ
  pub ask : Ask
  -- the sessions whose posts refused
  pub over : List ℕ

-- each Join of a run hands in an empty outbox
abbrev pub AllJoinEmpty : List Call → Type 0
AllJoinEmpty [] = Unit {0}
AllJoinEmpty (c ∷ cs) = JoinsEmpty c.ask × AllJoinEmpty cs

-- what a call comes to, from a state
abbrev pub outcome_of : State → Call → Outcome
outcome_of σ c = outcome σ c.over c.session c.ask

-- the state after calls, in turn
abbrev pub after_all : State → List Call → State
after_all σ [] = σ
after_all σ (c ∷ cs) = after_all (outcome_of σ c).state cs

-- the entry of a step as a list of one, or of none
abbrev pub entries : Option Entry → List Entry
entries None = []
entries (Some e) = e ∷ []

-- the log of a run
abbrev pub log_of : State → List Call → List Entry
log_of σ [] = []
log_of σ (c ∷ cs) = entries (outcome_of σ c).entry ++ log_of (outcome_of σ c).state cs

-- the replies of a run
abbrev pub replies_of : State → List Call → List Reply
replies_of σ [] = []
replies_of σ (c ∷ cs) = (outcome_of σ c).reply ∷ replies_of (outcome_of σ c).state cs

-- the item that a reply to a Take carries; none of any other reply
abbrev pub item_of : Reply → List Item
item_of (reply.Taken x) = x ∷ []
item_of r = []

-- what session m takes by a reply to session n: its item where they are one session, else nothing
abbrev pub delivered_by : ℕ → ℕ → Reply → List Item
delivered_by m n r = if m == n then item_of r else []

-- the items that a session took in a run
abbrev pub delivered_to : ℕ → State → List Call → List Item
delivered_to m σ [] = []
delivered_to m σ (c ∷ cs) = delivered_by m c.session (outcome_of σ c).reply ++ delivered_to m (outcome_of σ c).state cs

-- a joined session is as the log says: it watches what is in force, and what it took and then its outbox are its slice
pub record IsSessionTied (n : ℕ) (s : Session) (log : List Entry) (taken : List Item) : Type 0 where
  pub watching : (t : List ℕ) → level_in s.watching t ≡ in_force n log t
  pub items : taken ++ s.outbox.items ≡ slice n log

-- nothing of a session that has not joined yet
pub record IsNew (n : ℕ) (log : List Entry) (taken : List Item) : Type 0 where
  pub watching : (t : List ℕ) → in_force n log t ≡ None
  pub expected : slice n log ≡ []
  pub taken_none : taken ≡ []

-- a list is a beginning of another
pub record Begins (xs ys : List Item) : Type 0 where
  pub rest : List Item
  pub is : xs ++ rest ≡ ys

-- a state is what the log says, and what its sessions have taken
pub record IsTied (σ : State) (log : List Entry) (taken : ℕ → List Item) : Type 0 where
  pub tables : σ.tables ≡ serial log
  pub legal : IsLegal [] 0 log
  pub commits : σ.commits ≡ commits_from 0 log
  pub sessions : (n : ℕ) (s : Session) → session_at σ.sessions n ≡ Some s → IsSessionTied n s log (taken n)
  pub fresh : (n : ℕ) → σ.greatest < n → IsNew n log (taken n)
  -- each session, also one that left, has taken a beginning of what the log owes it
  pub begun : (n : ℕ) → Begins (taken n) (slice n log)
  -- where a session watches a table, the changes since it subscribed give the table's rows now
  pub since : (n : ℕ) (s : Session) (t : List ℕ) (l : Level) → session_at σ.sessions n ≡ Some s → level_in s.watching t ≡ Some l → RowsSince n t l log (rows_of σ.tables t)
  -- each subscription was made on a table that stood then
  pub stood : AllWereInForce [] log
  -- ages are from 1 on: of commits, of open transactions, and of the next
  pub aged : AllAged log
  pub ages : AreAged σ.sessions
  pub next_age : 0 < σ.next_age

-- the call of a session that leaves; no outbox refuses in it
abbrev pub leave_call : ℕ → Call
leave_call n = record { session = n; ask = Leave; over = [] }
