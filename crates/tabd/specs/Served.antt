-- The book that a server serves, by its words. Source of the limits: docs/PROTOCOL.md, "Limits".
use Rattle.std.specs.Prelude.{ℕ, [], if◌then◌else◌}
use Rattle.tab_model.specs.declared.data.Limits.{Limits}
use Rattle.tab_model.specs.History.{empty}
use Rattle.tab_model.specs.State.{new}
use Rattle.tab_book.specs.Running.{Running}
use Rattle.tab_post.specs.declared.room.Room.{Room}
use Rattle.tab_words.specs.declared.serving.Service.{Service}

-- one that serves for good has no session beside its connections
abbrev pub sessions_of : Service → ℕ
sessions_of s = if s.forever then s.sizes.connections else 64

-- the limits of a server's book; the words choose its sessions and its journal
abbrev pub limits_of : Service → Limits
limits_of s = record { sessions = sessions_of s; nesting = 16; operations = 1000; tables = 256; ages = 9223372036854775807; journal = s.sizes.journal; journal_bytes = s.sizes.journal_bytes }

-- what a session's mailbox holds
abbrev pub room_of : Service → Room
room_of s = record { items = s.sizes.outbox; bytes = s.sizes.outbox_bytes }

-- a book with no table, no session, an empty journal and no step
abbrev pub new_book : Limits → Running
new_book limits = record { state = new limits; journal = record { base = empty; entries = []; limit = limits.journal; most_bytes = limits.journal_bytes }; log = [] }

-- the book that a server begins with
abbrev pub book_of : Service → Running
book_of s = new_book (limits_of s)
