-- What is sent to a client, in order (this project's own rules).
use Rattle.std.specs.Prelude.{ℕ, Bool, List, [], ◌∷◌, ◌++◌, Option, None, Some, IsFalse}
use Rattle.std.specs.Io.KnownBytes.{Appends, append_known}
use Rattle.tab_term.specs.Canon.{canon}
use Rattle.tab_etf.specs.Frames.{frame}
use Rattle.tab_model.specs.declared.data.Reply.{Reply}
use Rattle.tab_proto.specs.Replies.{response}

-- the frame of a served session's reply
abbrev pub reply_frame : Reply → List ℕ
reply_frame r = frame (131 ∷ canon (response None r))

-- the frames of replies, in order; a command whose wait was ended by an abort has none
abbrev pub reply_frames : List (Option Reply) → List ℕ
reply_frames [] = []
reply_frames (None ∷ rs) = reply_frames rs
reply_frames (Some r ∷ rs) = reply_frame r ++ reply_frames rs

-- to what was sent and then kept these bytes are added, unless the way is broken
abbrev pub Goes : {O : Type 0} → (O → Option (List ℕ)) → (O → Bool) → O → List ℕ → O → List ℕ → List ℕ → Type 0
Goes sent broken old kept new left bytes = IsFalse (broken new) → IsFalse (broken old) × Appends (append_known (sent old) kept) (append_known (sent new) left) bytes
