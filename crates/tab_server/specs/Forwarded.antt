-- How a session's items, and its overflows, go to its client (this project's own rules).
use Rattle.std.proofs.Common.{inl, inr}
use Rattle.std.specs.Prelude.{◌≡◌, ◌⊎◌, ℕ, List, [], ◌∷◌, ◌++◌, Option, None, Some}
use Rattle.tab_term.specs.Canon.{canon}
use Rattle.tab_etf.specs.Frames.{frame}
use Rattle.tab_model.specs.declared.data.Item.{Item}
use Rattle.tab_model.specs.declared.data.Reply.TheVariants as reply
use Rattle.tab_proto.specs.declared.events.Delivery.{Delivery}
use Rattle.tab_proto.specs.Events.{sent_frames}
use Rattle.tab_proto.specs.Replies.{reply_term}
use Rattle.tab_book.specs.declared.step.Drained.TheVariants.{AllTaken, Overflow, Left}
use Rattle.tab_book.specs.Inboxes.{IsDrained}

-- an item, or the number of an overflow
abbrev pub Part : Type 0
Part = Item ⊎ ℕ

-- the frames of these parts, in order
abbrev pub part_frames : Delivery → List Part → List ℕ
part_frames d [] = []
part_frames d (inl x ∷ ps) = sent_frames d x ++ part_frames d ps
part_frames d (inr c ∷ ps) = frame (131 ∷ canon (reply_term (reply.Overflow c))) ++ part_frames d ps

-- each item is received next; at each overflow a running book has it for the session, of whose items all are received
abbrev pub Come : ℕ → ℕ → List Item → List Part → List Item → Type 0
Come n mailbox before [] after = after ≡ before
Come n mailbox before (inl x ∷ ps) after = Come n mailbox (before ++ x ∷ []) ps after
Come n mailbox before (inr c ∷ ps) after = IsDrained n mailbox before (Overflow c) before × Come n mailbox before ps after

-- the bytes are the frames of what was received, in order, each item once, and each overflow at its place
pub record Forwards (n : ℕ) (d : Delivery) (mailbox : ℕ) (before after : List Item) (bytes : List ℕ) : Type 0 where
  pub parts : List Part
  pub come : Come n mailbox before parts after
  pub frames_are : bytes ≡ part_frames d parts

-- a running book shows that nothing is left of what the session was sent: all items are received, and each overflow is reported
abbrev pub NothingLeft : ℕ → ℕ → List Item → Type 0
NothingLeft n mailbox received = IsDrained n mailbox received AllTaken received ⊎ IsDrained n mailbox received Left received

-- the frames of an item that was put aside, if there is one
abbrev pub aside_frames : Delivery → Option Item → List ℕ
aside_frames d None = []
aside_frames d (Some x) = sent_frames d x
