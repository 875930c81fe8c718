-- Posts that have a capacity keep it; and where all have one, who refuses is decided.
use Rattle.std.proofs.Common.{◌≡◌, ℕ, ◌+◌, List, [], ◌∷◌, Bool, true, false, not, refl, ◌∙◌, length, Option, Some, None}
use Rattle.std.specs.Prelude.{◌||◌, if◌then◌else◌, nat_le, is_some, IfSome}
use Rattle.std.specs.List.{AllByRecursion, filter}
use Rattle.tab_model.specs.declared.data.Schema.{Schema}
use Rattle.tab_model.specs.declared.data.Command.{Command}
use Rattle.tab_model.specs.declared.data.Command.TheVariants as command
use Rattle.tab_model.specs.Schemas.{table_of_schema, schema_refusal, removed_table}
use Rattle.tab_model.specs.State.{Outbox, Transaction, Session, State, session_at, is_waiting, is_busy, level_in, mid_of}
use Rattle.tab_model.specs.declared.ask.Ask.TheVariants.{Join, Leave, Retry, Take, Do as DoCommand}
use Rattle.tab_model.specs.Outcome.{Ask, outcome, is_empty, batch_to, events_now, end_to, subscribe_refusal, is_at}
use Rattle.tab_model.specs.Run.{Allowed, put_ask, put_command, put_commit, put_schema}
use Rattle.tab_model.proofs.Splits.{IsSplit, fits_split}
use Rattle.tab_session.specs.Bounded.{HasCapacity, IsBounded}
use Rattle.tab_model.proofs.PostsStay.{found_has, JoinsAs, stays}

abbrev Bounded : List Session → Type 0
Bounded ss = AllByRecursion HasCapacity ss

abbrev Bound : ℕ → Option ℕ → Option ℕ → Type 0
Bound n c b = is_some c ≡ true

-- a session joins with a post that has a capacity
abbrev pub JoinsBounded : Ask → Type 0
JoinsBounded (Join b) = is_some b.capacity ≡ true
JoinsBounded a = Unit {0}

joins_as : (σ : State) (n : ℕ) (a : Ask) → JoinsBounded a → JoinsAs Bound σ n a
joins_as σ n (Join b) h = λ e. h
joins_as σ n Leave h = tt
joins_as σ n Retry h = tt
joins_as σ n Take h = tt
joins_as σ n (DoCommand c) h = tt

pub stays_bounded : (σ : State) (over : List ℕ) (n : ℕ) (a : Ask) → JoinsBounded a → IsBounded σ → IsBounded (outcome σ over n a).state
stays_bounded σ over n a joins k = stays Bound σ over n a (joins_as σ n a joins) k

some_of : (p : Session → Bool) (ss : List Session) → Bounded ss → Bounded (filter p ss)
some_of p [] k = tt
some_of p (s ∷ ss) k = by (p s) (some_of p ss k.1)
  where
    by : (b : Bool) → Bounded (filter p ss) → Bounded (if b then s ∷ filter p ss else filter p ss)
    by true rest = (k.0, rest)
    by false rest = rest

-- ---- who refuses

abbrev fills : Outbox → Option ℕ → Bool
fills b None = false
fills b (Some c) = nat_le c (length b.items)

-- those whose posts are full
abbrev full_in : List Session → List ℕ
full_in [] = []
full_in (s ∷ ss) = if fills s.outbox s.outbox.capacity then s.number ∷ full_in ss else full_in ss

abbrev pub settled : State → ℕ → Ask → List ℕ
settled σ n a = full_in (put_ask σ a (session_at σ.sessions n))

decided_by : (b : Outbox) (c : Option ℕ) (x : Bool) → is_some c ≡ true → IfSome c (λ q. x ≡ nat_le q (length b.items)) → x ≡ fills b c
decided_by b None x h e = cc
decided_by b (Some c) x h e = e

pinned_is : (ss : List Session) (over : List ℕ) → Bounded ss → IsSplit ss over → over ≡ full_in ss
pinned_is [] over k h = h
pinned_is (s ∷ ss) over k (b, rest, is, decides, others) =
    is ∙ (λ i. if decided_by s.outbox s.outbox.capacity b k.0 decides i then s.number ∷ pinned_is ss rest k.1 others i else pinned_is ss rest k.1 others i)

module _ (σ : State) (k : IsBounded σ) where
  put_commit_bounded : (t : Option Transaction) → Bounded (put_commit σ t)
  put_commit_bounded None = tt
  put_commit_bounded (Some t) = by (is_empty (mid_of σ t).saved)
    where
      by : (b : Bool) → Bounded (if b then filter (λ x. not (is_empty (batch_to (σ.commits + 1) (events_now σ t) x))) σ.sessions else [])
      by true = some_of _ σ.sessions k
      by false = tt

  put_schema_bounded : (c : Schema) (t : Option Transaction) → Bounded (put_schema σ c t)
  put_schema_bounded c (Some t) = tt
  put_schema_bounded c None = by (is_some (schema_refusal σ.tables c) || is_busy σ (table_of_schema c))
    where
      by : (b : Bool) → Bounded (if b then [] else filter (λ x. not (is_empty (end_to (removed_table c) x))) σ.sessions)
      by true = tt
      by false = some_of _ σ.sessions k

  one_if : (s : Session) → HasCapacity s → (b : Bool) → Bounded (if b then s ∷ [] else [])
  one_if s h true = (h, tt)
  one_if s h false = tt

  one_unless : (s : Session) → HasCapacity s → (b : Bool) → Bounded (if b then [] else s ∷ [])
  one_unless s h true = tt
  one_unless s h false = (h, tt)

  put_command_bounded : (s : Session) → HasCapacity s → (c : Command) → Bounded (put_command σ s c)
  put_command_bounded s h (command.Schema c) = put_schema_bounded c s.transaction
  put_command_bounded s h (command.TableInfo t i) = tt
  put_command_bounded s h command.Begin = tt
  put_command_bounded s h command.Commit = put_commit_bounded s.transaction
  put_command_bounded s h (command.Abort r) = tt
  put_command_bounded s h (command.Do o) = tt
  put_command_bounded s h (command.Subscribe t l dump) = one_unless s h (is_some (subscribe_refusal σ s t))
  put_command_bounded s h (command.Unsubscribe t l) = one_if s h (is_at (level_in s.watching t) l)
  put_command_bounded s h (command.OneShot parts retries) = tt

  put_ask_bounded : (n : ℕ) (a : Ask) (o : Option Session) → session_at σ.sessions n ≡ o → Bounded (put_ask σ a o)
  put_ask_bounded n (Join b) o e = tt
  put_ask_bounded n Leave o e = tt
  put_ask_bounded n Retry o e = tt
  put_ask_bounded n Take o e = tt
  put_ask_bounded n (DoCommand c) None e = tt
  put_ask_bounded n (DoCommand c) (Some s) e = by (is_waiting σ s.number)
    where
      by : (b : Bool) → Bounded (if b then [] else put_command σ s c)
      by true = tt
      by false = put_command_bounded s (found_has Bound σ.sessions n s k e) c

-- where all posts have a capacity, one list alone is allowed
pub is_settled : (σ : State) (over : List ℕ) (n : ℕ) (a : Ask) → IsBounded σ → Allowed σ over n a → over ≡ settled σ n a
is_settled σ over n a k h =
    let handed = put_ask σ a (session_at σ.sessions n) in
    pinned_is handed over (put_ask_bounded σ k n a (session_at σ.sessions n) refl) (fits_split handed over h)
