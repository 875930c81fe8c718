-- The joined sessions: the transaction of each, what it watches, and what its post shows (this project's own). The words are
-- those of a core's sessions.
use Rattle.std.specs.Prelude.{ℕ, ◌≡◌, ◌<◌, map, length, nat_le, IfSome, slice_index_or, slice_set, List, [], ◌∷◌, Bool, true, false, not, ◌==◌, if◌then◌else◌, Option, Some, None, is_some, find, filter}
use Rattle.std.specs.List.{list_any}
use Rattle.tab_model.specs.declared.data.Item.{Item}
use Rattle.tab_model.specs.declared.data.Level.{Level}
use Rattle.tab_model.specs.Log.{has_session}
use Rattle.tab_model.specs.State.{Outbox, Watch, level_in}
use Rattle.tab_model.specs.Outcome.{with_items, with_refusal, items_to_take}
use Rattle.tab_subs.specs.declared.answers.Taken.{Taken}
use Rattle.tab_subs.specs.declared.answers.Taken.TheVariants as taken
use Rattle.tab_subs.specs.declared.answers.Marked.{Marked}
use Rattle.tab_subs.specs.declared.answers.Marked.TheVariants as mark

-- a joined session: its open transaction, which is a T, what it watches, what its post shows, and an overflow that it was not sent yet
pub record Subscriber (T : Type 0) : Type 0 where
  pub number : ℕ
  pub transaction : Option T
  pub watching : List Watch
  pub outbox : Outbox
  pub overflow : Option ℕ

-- a session that has just joined with this post
abbrev pub fresh : {T : Type 0} → ℕ → Outbox → Subscriber T
fresh n b = record { number = n; transaction = None; watching = []; outbox = b; overflow = None }

-- no item is ever put into it
abbrev pub no_outbox : Outbox
no_outbox = record { items = []; refusals = 0; capacity = Some 0; mailbox = None }

-- what a place holds where there is no session
abbrev pub nobody : {T : Type 0} → Subscriber T
nobody = fresh 0 no_outbox

-- the subscriber of this number, the first if there are several
abbrev pub at : {T : Type 0} → List (Subscriber T) → ℕ → Option (Subscriber T)
at ss n = find (λ s. s.number == n) ss

-- the list with s in the place of the first subscriber of its number; nothing is added where there is none
abbrev pub change : {T : Type 0} → List (Subscriber T) → Subscriber T → List (Subscriber T)
change [] s = []
change (x ∷ xs) s = if x.number == s.number then s ∷ xs else x ∷ change xs s

-- the list with this transaction, or none, in the subscriber at the place
abbrev pub with_transaction_at : {T : Type 0} → List (Subscriber T) → ℕ → Option T → List (Subscriber T)
with_transaction_at ss i t = slice_set ss i (record (slice_index_or ss i nobody) { transaction = t })

-- the list without the subscribers of this number
abbrev pub without : {T : Type 0} → List (Subscriber T) → ℕ → List (Subscriber T)
without ss n = filter (λ s. not (s.number == n)) ss

-- an item that the post refuses ends its subscriptions
abbrev pub overflowed : {T : Type 0} → ℕ → Subscriber T → Subscriber T
overflowed n s = record s { watching = []; outbox = with_refusal s.outbox; overflow = Some n }

-- a subscriber after its items: overflowed where its number is in the list, else with them behind its outbox
abbrev pub given : {T : Type 0} → ℕ → List ℕ → List Item → Subscriber T → Subscriber T
given n over items s =
    if has_session over s.number then overflowed n s
    else record s { outbox = with_items s.outbox items }

-- a marker into the post, with what it then watches; or a refusal that the post counts
abbrev pub marked : {T : Type 0} → Marked → List Watch → Item → Subscriber T → Subscriber T
marked mark.Full ws x s = record s { outbox = with_refusal s.outbox }
marked mark.Put ws x s = record s { watching = ws; outbox = with_items s.outbox (x ∷ []) }

-- the marker found no room in the post
abbrev pub is_full : Marked → Bool
is_full mark.Full = true
is_full mark.Put = false

-- a marker, where the session is joined; a post's capacity decides where it has one
abbrev pub Marks : {T : Type 0} → List (Subscriber T) → Option (Subscriber T) → (Subscriber T → List Watch) → Item → Option Marked → List (Subscriber T) → Type 0
Marks ss None ws x m new = (m ≡ None) × (new ≡ ss)
Marks ss (Some s) ws x None new = ⊥
Marks ss (Some s) ws x (Some m) new =
    (new ≡ change ss (marked m (ws s) x s)) × IfSome s.outbox.capacity (λ c. is_full m ≡ nat_le c (length s.outbox.items))

-- a Take: the next item, else an overflow, which is told once, else empty
abbrev pub give : {T : Type 0} → Subscriber T → List Item → Option ℕ → Subscriber T × Taken
give s (x ∷ xs) l =
    (record s { outbox = record s.outbox { items = xs } }, taken.Item x)
give s [] None = (s, taken.Empty)
give s [] (Some n) = (record s { overflow = None }, taken.Overflow n)

-- a Take: the subscriber after it, and what it is answered
abbrev pub take : {T : Type 0} → Subscriber T → Subscriber T × Taken
take s = give s (items_to_take s.outbox s.outbox.capacity) s.overflow

-- a Take by one of the subscribers, or by none: the list after it, and what it is answered
abbrev pub taken_from : {T : Type 0} → List (Subscriber T) → Option (Subscriber T) → List (Subscriber T) × Option Taken
taken_from ss None = (ss, None)
taken_from ss (Some s) = (change ss (take s).0, Some (take s).1)

-- the level at which a subscriber, if there is one, watches a table
abbrev pub level_of : {T : Type 0} → Option (Subscriber T) → List ℕ → Option Level
level_of None t = None
level_of (Some s) t = level_in s.watching t

-- the overflow that a subscriber, if there is one, was not sent yet
abbrev pub overflow_of : {T : Type 0} → Option (Subscriber T) → Option ℕ
overflow_of None = None
overflow_of (Some s) = s.overflow

-- a subscriber watches the table
abbrev pub has_watcher : {T : Type 0} → List (Subscriber T) → List ℕ → Bool
has_watcher ss t = list_any (λ s. is_some (level_in s.watching t)) ss

-- ---- places

-- the numbers of the subscribers, in their order
abbrev pub numbers : {T : Type 0} → List (Subscriber T) → List ℕ
numbers ss = map (λ (s : Subscriber _). s.number) ss

-- each number of the list is above n
abbrev pub AllAbove : ℕ → List ℕ → Type 0
AllAbove n [] = Unit {0}
AllAbove n (m ∷ ms) = (n < m) × AllAbove n ms

-- the numbers ascend, so no two are equal
abbrev pub Ascends : List ℕ → Type 0
Ascends [] = Unit {0}
Ascends (n ∷ ns) = AllAbove n ns × Ascends ns

-- each number of the list is below n
abbrev pub AllBelow : ℕ → List ℕ → Type 0
AllBelow n [] = Unit {0}
AllBelow n (m ∷ ms) = (m < n) × AllBelow n ms

-- the session stands at this place
pub record IsHeldAt {T : Type 0} (ss : List (Subscriber T)) (n i : ℕ) : Type 0 where
  pub within : i < length ss
  pub slot : (d : Subscriber T) → at ss n ≡ Some (slice_index_or ss i d)
  pub number : (d : Subscriber T) → (slice_index_or ss i d).number ≡ n
  pub changed : (s : Subscriber T) → s.number ≡ n → change ss s ≡ slice_set ss i s
  pub replaced : (s : Subscriber T) → s.number ≡ n → (m : ℕ) → at (slice_set ss i s) m ≡ (if m == n then Some s else at ss m)
