-- What the replies to a stream add to what its client is sent (this project's own rules).
use Rattle.std.specs.Prelude.{◌≡◌, ◌≢◌, ◌⊎◌, ℕ, Bool, true, false, List, [], ◌∷◌, ◌++◌, Option, None, Some}
use Rattle.std.specs.Io.KnownBytes.{Consumes}
use Rattle.tab_etf.specs.declared.framing.FrameFault.{FrameFault}
use Rattle.tab_etf.specs.declared.framing.FrameFault.TheVariants.{FrameTooLong, NoMemory}
use Rattle.tab_etf.specs.Frames.{length_next, IsOver}
use Rattle.tab_etf.specs.Streams.{payloads, rest_of, GoesOn, Stops}
use Rattle.tab_model.specs.declared.data.Reply.{Reply}
use Rattle.tab_model.specs.declared.data.Reply.TheVariants as reply
use Rattle.tab_book.specs.Logs.{Made}
use Rattle.tab_server.specs.declared.answers.Answers.{Answers}
use Rattle.tab_server.specs.declared.incoming.Incoming.{Incoming}
use Rattle.tab_server.specs.Placed.{is_between, IsAt}
use Rattle.tab_server.specs.Sending.{reply_frames}
use Rattle.tab_server.specs.Sent.{AreAnswered, Sends}

-- the bytes of the current frame that are kept: none of a frame that is skipped
abbrev pub kept : Bool → List ℕ → List ℕ
kept true bytes = []
kept false bytes = bytes

-- these bytes of the current frame have come
pub record IsIn (bytes : List ℕ) (x : Incoming) : Type 0 where
  pub going : x.splitter.over ≡ None
  pub rest : x.splitter.rest ≡ kept x.skips bytes
  pub at : IsAt bytes x.place
  pub inside : x.skips ≡ true → is_between x.place ≡ false

-- after these bytes the payloads are whole, and none is skipped
pub record Gives (bytes : List ℕ) (new : Incoming) (given : List (List ℕ)) : Type 0 where
  pub left : List ℕ
  pub goes : GoesOn bytes given left
  pub is_in : IsIn left new
  pub none : new.skips ≡ false

-- the reply to a frame that is skipped is sent before the frame is whole
abbrev pub early : Bool → List (Option Reply)
early true = Some reply.NoMemory ∷ []
early false = []

-- the frames of these bytes, of which some came before, are answered by these replies and those that were sent early; p and q are what
-- was seen of the book's log before and after
pub record AnswersBytes (n : ℕ) (p q : List Made) (bytes : List ℕ) (old new : Incoming) (replies : List (Option Reply)) : Type 0 where
  pub given : List (List ℕ)
  pub left : List ℕ
  pub goes : GoesOn bytes given left
  pub is_in : IsIn left new
  pub said : List (Option Reply)
  pub each : AreAnswered n p given said q
  pub same : early old.skips ++ replies ≡ said ++ early new.skips

-- the reply to a frame whose length is over the limit
abbrev pub IsLastReply : Option Reply → Type 0
IsLastReply r = (r ≡ Some reply.BadTerm) ⊎ (r ≡ Some reply.NoMemory)

-- these bytes end in a frame whose length is over the limit, and it is the last one that is answered
pub record AnswersLast (n : ℕ) (p q : List Made) (bytes : List ℕ) (old : Incoming) (replies : List (Option Reply)) : Type 0 where
  pub given : List (List ℕ)
  pub over : ℕ
  pub stops : Stops bytes given over
  pub said : List (Option Reply)
  pub each : AreAnswered n p given said q
  pub last : Option Reply
  pub is_last : IsLastReply last
  pub same : early old.skips ++ replies ≡ said ++ last ∷ []

-- why these bytes were not taken: there was no memory, and nothing has changed, or a length over the limit comes next
abbrev pub IsNotTaken : FrameFault → List ℕ → Incoming → Incoming → Type 0
IsNotTaken NoMemory bytes old new = new ≡ old
IsNotTaken (FrameTooLong over) bytes old new = Stops bytes new.splitter.before over
IsNotTaken _ bytes old new = ⊥

-- why these bytes were not taken: there was no memory, and the frame is skipped, or a length over the limit comes next
abbrev pub IsSkipped : FrameFault → List ℕ → Incoming → Incoming → Type 0
IsSkipped NoMemory bytes old new = (n : ℕ) (p : List Made) → AnswersBytes n p p bytes old new (Some reply.NoMemory ∷ [])
IsSkipped (FrameTooLong over) bytes old new = Stops bytes new.splitter.before over
IsSkipped _ bytes old new = ⊥

module _ {O G : Type 0} (sent : O → Option (List ℕ)) (broken : O → Bool) where
  -- the frames of these bytes are answered, and their replies are sent
  pub record SendsAnswers (n : ℕ) (p q : List Made) (bytes : List ℕ) (old new : Incoming) (a b : Answers O G) : Type 0 where
    pub replies : List (Option Reply)
    pub answers : AnswersBytes n p q bytes old new replies
    pub sends : Sends sent broken a b (reply_frames replies)

  -- the same, up to a frame whose length is over the limit, which is the last one
  pub record SendsLast (n : ℕ) (p q : List Made) (bytes : List ℕ) (old : Incoming) (a b : Answers O G) : Type 0 where
    pub replies : List (Option Reply)
    pub answers : AnswersLast n p q bytes old replies
    pub sends : Sends sent broken a b (reply_frames replies)

  -- these payloads are answered, and then a frame that is too long
  pub record AnswersTooLong (n : ℕ) (p q : List Made) (given : List (List ℕ)) (a b : Answers O G) : Type 0 where
    pub said : List (Option Reply)
    pub each : AreAnswered n p given said q
    pub sends : Sends sent broken a b (reply_frames (said ++ Some reply.BadTerm ∷ []))

  -- some bytes were read, and their frames are answered
  pub record TakesPart (n : ℕ) (p q : List Made) (before after : Option (List ℕ)) (at : List ℕ) (old new : Incoming) (a b : Answers O G) : Type 0 where
    pub part : List ℕ
    pub read : Consumes before after part
    pub served : SendsAnswers n p q (at ++ part) old new a b

  -- some bytes were read, and their frames are answered, up to one whose length is over the limit
  pub record TakesLast (n : ℕ) (p q : List Made) (before after : Option (List ℕ)) (at : List ℕ) (old : Incoming) (a b : Answers O G) : Type 0 where
    pub part : List ℕ
    pub read : Consumes before after part
    pub served : SendsLast n p q (at ++ part) old a b

  -- the payloads of the bytes that were read are answered, in order, each once, and so is a part of a frame after them that is skipped
  pub record IsStreamAnswered (n : ℕ) (p q : List Made) (before after : Option (List ℕ)) (a b : Answers O G) : Type 0 where
    pub bytes : List ℕ
    pub read : Consumes before after bytes
    pub said : List (Option Reply)
    pub each : AreAnswered n p (payloads bytes) said q
    pub skips : Bool
    pub inside : skips ≡ true → rest_of bytes ≢ []
    pub sends : Sends sent broken a b (reply_frames (said ++ early skips))

  -- the payloads of the bytes that were read are answered, in order, each once, and then a length over the limit
  pub record IsStreamStopped (n : ℕ) (p q : List Made) (before after : Option (List ℕ)) (a b : Answers O G) : Type 0 where
    pub bytes : List ℕ
    pub read : Consumes before after bytes
    pub said : List (Option Reply)
    pub each : AreAnswered n p (payloads bytes) said q
    pub over : (m : ℕ) × IsOver (length_next (rest_of bytes)) m
    pub last : Option Reply
    pub is_last : IsLastReply last
    pub sends : Sends sent broken a b (reply_frames (said ++ last ∷ []))
