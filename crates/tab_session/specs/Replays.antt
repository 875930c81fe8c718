-- What a replay writes of what it reads.
use Rattle.std.specs.Prelude.{◌≡◌, ◌≢◌, ℕ, ◌+◌, ◌<◌, ◌≤◌, ◌-◌, ◌^◌, min, List, [], ◌∷◌, ◌++◌, length, take, Option, Some, Result, Ok, Err, ◌⊎◌, Bool, true}
use Rattle.std.specs.List.{flat_map}
use Rattle.std.specs.Io.KnownBytes.{Appends}
use Rattle.tab_etf.specs.Streams.{payloads, rest_of, GoesOn}
use Rattle.tab_session.specs.declared.answered.PayloadReply.{PayloadReply}
use Rattle.tab_model.specs.State.{State, new}
use Rattle.tab_model.specs.declared.data.Limits.{Limits}
use Rattle.tab_session.specs.AnsweredPayloads.{AnsweredAll, answer_payload, answer_frame}
use Rattle.tab_session.specs.declared.ended.Ended.{Ended}
use Rattle.tab_session.specs.declared.ended.Ended.TheVariants.{Damaged, Device, TooLong, NoMemory}

-- the limits of a replay
abbrev pub limits : Limits
limits = record { sessions = 64; nesting = 16; operations = 1000; tables = 256; ages = 9223372036854775807; journal = 1024; journal_bytes = 67108864 }

-- a core without tables and sessions
abbrev pub fresh : State
fresh = new limits

-- the frames of the answers, one after another
abbrev pub frames_of : List PayloadReply → List ℕ
frames_of rs = flat_map answer_frame rs

-- there is a first answer, and its payload has over 4,294,967,295 bytes
abbrev pub BeginsTooLong : List PayloadReply → Type 0
BeginsTooLong [] = ⊥
BeginsTooLong (r ∷ rs) = 4294967295 < length (answer_payload r)

-- a count of faults is one more, up to the greatest 64 bit number
abbrev pub IsOneMore : ℕ → ℕ → Type 0
IsOneMore old new = new ≡ min (old + 1) (2 ^ 64 - 1)

-- how often a writer failed
abbrev pub OneFault : ℕ → ℕ → Result (Unit {0}) Ended → Type 0
OneFault old new (Ok u) = new ≡ old
OneFault old new (Err Damaged) = new ≡ old
OneFault old new (Err Device) = IsOneMore old new
OneFault old new (Err TooLong) = new ≡ old
OneFault old new (Err NoMemory) = new ≡ old

-- neither count of faults, from a to b and from c to d, has changed
abbrev pub AreAsBefore : ℕ → ℕ → ℕ → ℕ → Type 0
AreAsBefore a b c d = (b ≡ a) × (d ≡ c)

-- how often a reader and a writer failed
abbrev pub Faults : ℕ → ℕ → ℕ → ℕ → Result (Unit {0}) Ended → Type 0
Faults a b c d (Ok u) = AreAsBefore a b c d
Faults a b c d (Err Damaged) = AreAsBefore a b c d
Faults a b c d (Err Device) = (IsOneMore a b × (d ≡ c)) ⊎ ((b ≡ a) × IsOneMore c d)
Faults a b c d (Err TooLong) = AreAsBefore a b c d
Faults a b c d (Err NoMemory) = AreAsBefore a b c d

-- at the stream's end and at damage all that was written has been flushed
abbrev pub HasFlushed : Result (Unit {0}) Ended → Bool → Type 0
HasFlushed (Ok u) flushed = flushed ≡ true
HasFlushed (Err Damaged) flushed = flushed ≡ true
HasFlushed (Err Device) flushed = Unit {0}
HasFlushed (Err TooLong) flushed = Unit {0}
HasFlushed (Err NoMemory) flushed = Unit {0}

-- the frame of an answer was kept behind those that are kept, or written with them: what a writer had and has, and what is kept
abbrev pub Handed : PayloadReply → Option (List ℕ) → Option (List ℕ) → List ℕ → List ℕ → Result (Unit {0}) Ended → Type 0
Handed x old new kept rest (Ok u) = (written : List ℕ) × Appends old new written × (written ++ rest ≡ kept ++ answer_frame x)
Handed x old new kept rest (Err Damaged) = ⊥
Handed x old new kept rest (Err Device) = (n : ℕ) × Appends old new (take n (kept ++ answer_frame x))
Handed x old new kept rest (Err TooLong) = Appends old new kept × (4294967295 < length (answer_payload x))
Handed x old new kept rest (Err NoMemory) = ⊥

module _ (capacity : ℕ) where
  -- a run over all these payloads says these replies
  pub record IsRun (σ : State) (ps : List (List ℕ)) (rs : List PayloadReply) : Type 0 where
    pub last : State
    pub ran : AnsweredAll capacity σ ps rs last

  -- the frames of all replies were written
  pub record WroteAll (σ : State) (ps : List (List ℕ)) (old new : Option (List ℕ)) : Type 0 where
    pub replies : List PayloadReply
    pub said : IsRun σ ps replies
    pub text : Appends old new (frames_of replies)

  -- a beginning of the text was written
  pub record WroteSome (σ : State) (ps : List (List ℕ)) (old new : Option (List ℕ)) : Type 0 where
    pub replies : List PayloadReply
    pub said : IsRun σ ps replies
    pub count : ℕ
    pub text : Appends old new (take count (frames_of replies))

  -- the frames of the replies before one that is too long were written
  pub record WroteBefore (σ : State) (ps : List (List ℕ)) (old new : Option (List ℕ)) : Type 0 where
    pub first : List PayloadReply
    pub others : List PayloadReply
    pub said : IsRun σ ps (first ++ others)
    pub text : Appends old new (frames_of first)
    pub next : BeginsTooLong others

  -- all payloads were answered, from the one state to the other, and the frames of the answers were written
  pub record Passed (σ τ : State) (ps : List (List ℕ)) (old new : Option (List ℕ)) : Type 0 where
    pub replies : List PayloadReply
    pub ran : AnsweredAll capacity σ ps replies τ
    pub text : Appends old new (frames_of replies)

  -- these payloads were served
  abbrev pub Served : State → State → List (List ℕ) → Option (List ℕ) → Option (List ℕ) → Result (Unit {0}) Ended → Type 0
  Served σ τ ps old new (Ok u) = Passed σ τ ps old new
  Served σ τ ps old new (Err Damaged) = ⊥
  Served σ τ ps old new (Err Device) = WroteSome σ ps old new
  Served σ τ ps old new (Err TooLong) = WroteBefore σ ps old new
  Served σ τ ps old new (Err NoMemory) = ⊥

  -- of what was read all but one last piece is answered, and the frames of all its replies were written
  pub record WroteBeforePiece (stream : List ℕ) (left old new : Option (List ℕ)) : Type 0 where
    pub answered : List ℕ
    pub piece : List ℕ
    pub more : List ℕ
    pub parts : answered ++ (piece ++ more) ≡ stream
    pub unread : left ≡ Some more
    pub short : length piece ≤ 65536
    pub wrote : WroteAll fresh (payloads answered) old new

  -- the whole stream was replayed by a new core, or what was read of it where this is left
  abbrev pub Replayed : List ℕ → Option (List ℕ) → Option (List ℕ) → Option (List ℕ) → Result (Unit {0}) Ended → Type 0
  Replayed stream left old new (Ok u) = (rest_of stream ≡ []) × WroteAll fresh (payloads stream) old new
  Replayed stream left old new (Err Damaged) = (rest_of stream ≢ []) × WroteAll fresh (payloads stream) old new
  Replayed stream left old new (Err Device) = WroteSome fresh (payloads stream) old new
  Replayed stream left old new (Err TooLong) = WroteBefore fresh (payloads stream) old new
  Replayed stream left old new (Err NoMemory) = WroteBeforePiece stream left old new

  -- the loop over the payloads of a piece: what was said, and how a run goes on
  pub record IsServing (σ now : State) (all left : List (List ℕ)) (old new : Option (List ℕ)) (buffer : List ℕ) : Type 0 where
    pub said : List PayloadReply
    pub goes : (ss : List PayloadReply) (τ : State) → AnsweredAll capacity now left ss τ → AnsweredAll capacity σ all (said ++ ss) τ
    pub written : List ℕ
    pub text : Appends old new written
    pub whole : written ++ buffer ≡ frames_of said

  -- the loop over the reader
  pub record IsReplaying (stream : List ℕ) (left : Option (List ℕ)) (held : List ℕ) (rounds : ℕ) (now : State) (old new : Option (List ℕ)) : Type 0 where
    pub read : List ℕ
    pub more : List ℕ
    pub parts : read ++ more ≡ stream
    pub has : left ≡ Some more
    pub done : List (List ℕ)
    pub said : List PayloadReply
    pub cut : GoesOn read done held
    pub goes : (qs : List (List ℕ)) (ss : List PayloadReply) (τ : State) → AnsweredAll capacity now qs ss τ → AnsweredAll capacity fresh (done ++ qs) (said ++ ss) τ
    pub text : Appends old new (frames_of said)
    pub count : rounds + length more ≤ length stream

  -- after a piece the loop goes on, or the whole is said
  abbrev pub Advances : Result (Unit {0}) Ended → List ℕ → Option (List ℕ) → List ℕ → ℕ → State → Option (List ℕ) → Option (List ℕ) → Type 0
  Advances (Ok u) stream left held rounds now old new = IsReplaying stream left held rounds now old new
  Advances (Err e) stream left held rounds now old new = Replayed stream left old new (Err e)
