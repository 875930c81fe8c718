-- What contracts see of the two ends of a mailbox (this project's own).
use Rattle.std.specs.Prelude.{◌≡◌, ℕ, List, [], length, Option, Some, None, option_map}
use Rattle.crossbeam_channel.specs.Claims.{view}
use Rattle.crossbeam_channel.specs.Ends.{sends_on, receives_on, ruled_capacity}
use Rattle.tab_model.specs.declared.data.Item.{Item}
use Rattle.tab_model.specs.State.{Outbox}
use Rattle.tab_post.specs.declared.naming.Naming.{Ghosts}
use Rattle.tab_post.specs.declared.ends.NewMailbox.{NewMailbox}
use Rattle.tab_post.specs.declared.room.Room.{Room}
use Rattle.tab_post.specs.declared.post.ChannelPost.{ChannelPost}
use Rattle.tab_post.specs.declared.inbox.Inbox.{Inbox}
use Rattle.tab_post.specs.Rule.{EndsWith}

-- at some moment the channel was full, of the last items that had been sent
abbrev pub WasFull : ℕ → List Item → Type 0
WasFull capacity sent = (items : List Item) × (length items ≡ capacity) × EndsWith sent items

-- what a mailbox into which nothing was put shows as a post, by its place
abbrev pub empty_outbox : ℕ → Outbox
empty_outbox place = record { items = []; refusals = 0; capacity = None; mailbox = Some place }

-- how many items a new mailbox holds at most, and at how many bytes it is full, if that is limited
abbrev pub room_of : NewMailbox → Room
room_of m = record { items = ruled_capacity (sends_on m.sender); bytes = m.tally }

module _ {H : Type 0} {N : Ghosts H} where
  -- all that was ever sent
  abbrev pub sent : ChannelPost H N → List Item
  sent p = (view p.pass).sent

  -- all that was ever received
  abbrev pub received : Inbox H N → List Item
  received i = (view i.pass).taken

  -- which mailbox it is of, by its place
  abbrev pub mailbox_of : Inbox H N → ℕ
  mailbox_of i = i.place

  -- how many items the mailbox's channel can hold
  abbrev pub capacity_of : ChannelPost H N → ℕ
  capacity_of p = ruled_capacity (sends_on p.channel)

  -- the bytes at which the mailbox is full, if they are limited
  abbrev pub limit_of : ChannelPost H N → Option ℕ
  limit_of p = option_map (λ w. w.limit) p.weights

  -- what the mailbox holds
  abbrev pub room_for : ChannelPost H N → Room
  room_for p = record { items = capacity_of p; bytes = limit_of p }

  -- how many items the mailbox's channel can hold, as its receiving end knows it
  abbrev pub capacity_in : Inbox H N → ℕ
  capacity_in i = ruled_capacity (receives_on i.channel)

  -- what the mailbox holds, as its receiving end knows it
  abbrev pub room_in : Inbox H N → Room
  room_in i = record { items = capacity_in i; bytes = i.tally }

  -- as a post, it shows all that was ever sent and which mailbox it is of, and no capacity decides what it refuses
  abbrev pub as_outbox : ChannelPost H N → Outbox
  as_outbox p = record { items = sent p; refusals = p.refusals; capacity = None; mailbox = Some p.place }

  -- the second is the first after some calls
  abbrev pub IsSamePost : ChannelPost H N → ChannelPost H N → Type 0
  IsSamePost a b = (sends_on b.channel ≡ sends_on a.channel) × (b.place ≡ a.place) × (limit_of b ≡ limit_of a)

  -- the second inbox is the first after some calls
  abbrev pub IsSameInbox : Inbox H N → Inbox H N → Type 0
  IsSameInbox a b = (receives_on b.channel ≡ receives_on a.channel) × (b.place ≡ a.place) × (b.tally ≡ a.tally)

  -- the two ends of a mailbox into which nothing was put
  pub record AreNew (r : Room) (p : ChannelPost H N) (i : Inbox H N) : Type 0 where
    pub outbox : as_outbox p ≡ empty_outbox (mailbox_of i)
    pub taken : received i ≡ []
    pub room : room_for p ≡ r
    pub inside : room_in i ≡ r
