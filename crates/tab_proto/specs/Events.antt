-- The frames of items: each event of a batch has one, or the batch has one as it is taken (this project's own).
use Rattle.std.specs.Prelude.{◌≡◌, ℕ, ◌+◌, ◌-◌, ◌^◌, ◌<◌, min, List, [], ◌∷◌, ◌++◌, length, take, Option, Some}
use Rattle.std.specs.Io.KnownBytes.{Appends}
use Rattle.tab_term.specs.Canon.{canon}
use Rattle.tab_term.specs.Data.{PlainTerms, none, one_more}
use Rattle.tab_etf.specs.Frames.{frame}
use Rattle.tab_etf.specs.declared.encoding.EncodeFault.{EncodeFault}
use Rattle.tab_etf.specs.declared.encoding.EncodeFault.TheVariants.{TooLong, NoMemory}
use Rattle.tab_etf.specs.declared.framing.FrameFault.{FrameFault}
use Rattle.tab_etf.specs.declared.framing.FrameFault.TheVariants.{FrameTooLong, Device}
use Rattle.tab_model.specs.declared.data.Item.{Item}
use Rattle.tab_model.specs.declared.data.Item.TheVariants.{Began, Batch, Ended}
use Rattle.tab_model.specs.declared.data.Reply.TheVariants.{Taken}
use Rattle.tab_proto.specs.Replies.{reply_term, item_term}
use Rattle.tab_proto.specs.declared.events.Delivery.{Delivery}
use Rattle.tab_proto.specs.declared.events.Delivery.TheVariants.{Events, Batches}

-- the frames of the events, each with the version byte and its term, one after another
abbrev pub event_frames : PlainTerms → List ℕ
event_frames none = []
event_frames (one_more e es) = frame (131 ∷ canon e) ++ event_frames es

-- the frames of an item by its events: one for each event of a batch, one for a marker
abbrev pub item_frames : Item → List ℕ
item_frames (Batch n events) = event_frames events
item_frames (Began t l dump) = frame (131 ∷ canon (item_term (Began t l dump)))
item_frames (Ended t e) = frame (131 ∷ canon (item_term (Ended t e)))

-- an item as it is sent: a batch by its events, or whole, as a Take is answered
abbrev pub sent_frames : Delivery → Item → List ℕ
sent_frames Events item = item_frames item
sent_frames Batches item = frame (131 ∷ canon (reply_term (Taken item)))

-- a frame among these is too long to be told, and what was written is all before it
abbrev pub StopsBefore : List ℕ → Option (List ℕ) → Option (List ℕ) → Type 0
StopsBefore frames old new = (before payload rest : List ℕ) × (frames ≡ before ++ (frame payload ++ rest)) × (4294967295 < length payload) × Appends old new before

-- why these frames were not all written, and what was
abbrev pub IsUnsent : FrameFault → List ℕ → Option (List ℕ) → Option (List ℕ) → ℕ → ℕ → Type 0
IsUnsent (FrameTooLong n) frames old new faults faults' = StopsBefore frames old new × (n ≡ 4294967295) × (faults' ≡ faults)
IsUnsent Device frames old new faults faults' = ((n : ℕ) × Appends old new (take n frames)) × (faults' ≡ min (faults + 1) (2 ^ 64 - 1))
IsUnsent _ frames old new faults faults' = ⊥

-- why these frames were not all added, and what was: all before one of them, which is too long to be told or found no memory
abbrev pub IsUnadded : EncodeFault → List ℕ → List ℕ → List ℕ → Type 0
IsUnadded TooLong frames old new = StopsBefore frames (Some old) (Some new)
IsUnadded NoMemory frames old new = (before payload rest : List ℕ) × (frames ≡ before ++ (frame payload ++ rest)) × (new ≡ old ++ before)
