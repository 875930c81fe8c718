-- What a reader took from a stream.
use Rattle.std.specs.Prelude.{◌≡◌, ◌≢◌, ℕ, ◌+◌, ◌-◌, ◌<◌, ◌^◌, min, List, [], ◌++◌, length, drop, Option, Some, None, Result, Ok, Err, Bool, false}
use Rattle.std.specs.Io.KnownBytes.{Consumes, IsAtEnd}
use Rattle.tab_etf.specs.declared.framing.Frame.{Frame}
use Rattle.tab_etf.specs.declared.framing.FrameFault.{FrameFault}
use Rattle.tab_etf.specs.declared.framing.FrameFault.TheVariants.{FrameTooLong, CutOff, Device, NoMemory}
use Rattle.tab_etf.specs.Frames.{length_next, IsOver, payload_of}
use Rattle.tab_etf.specs.Streams.{front}

-- the stream was xs, and ys is left
abbrev pub FrameAt : List ℕ → List ℕ → Result (Option Frame) FrameFault → Type 0
FrameAt xs ys (Ok (Some f)) = front xs ≡ Some (payload_of f, ys)
FrameAt xs ys (Ok None) = (xs ≡ []) × (ys ≡ [])
FrameAt xs ys (Err (FrameTooLong n)) = IsOver (length_next xs) n × (ys ≡ drop 4 xs)
FrameAt xs ys (Err CutOff) = (front xs ≡ None) × (xs ≢ []) × ((n : ℕ) → IsOver (length_next xs) n → ⊥) × (ys ≡ [])
FrameAt xs ys (Err Device) = (got : List ℕ) × (xs ≡ got ++ ys)
FrameAt xs ys (Err NoMemory) = (payload : List ℕ) × (front xs ≡ Some (payload, ys))

-- the same, where it is known what the reader has left
abbrev pub ReadsFrame : Option (List ℕ) → Option (List ℕ) → Result (Option Frame) FrameFault → Type 0
ReadsFrame None new result = Unit {0}
ReadsFrame (Some xs) None result = ⊥
ReadsFrame (Some xs) (Some ys) result = FrameAt xs ys result

-- only a fault of the device is counted
abbrev pub CountsFaults : {A : Type 0} → Result A FrameFault → ℕ → ℕ → Type 0
CountsFaults (Err Device) old new = new ≡ min (old + 1) (2 ^ 64 - 1)
CountsFaults result old new = new ≡ old

-- a payload of so many bytes
abbrev pub ReadsPayload : Option (List ℕ) → Option (List ℕ) → ℕ → Result Frame FrameFault → Type 0
ReadsPayload old new n (Ok f) = Consumes old new (payload_of f) × (length (payload_of f) ≡ n)
ReadsPayload old new n (Err (FrameTooLong m)) = ⊥
ReadsPayload old new n (Err CutOff) = ((got : List ℕ) × Consumes old new got × (length got < n)) × IsAtEnd new
ReadsPayload old new n (Err Device) = (got : List ℕ) × Consumes old new got
ReadsPayload old new n (Err NoMemory) = (got : List ℕ) × Consumes old new got × (length got ≡ n)

-- so many bytes came, and those that are kept are they
pub record HasCome (old now : Option (List ℕ)) (n : ℕ) (lost : Bool) (kept : List ℕ) : Type 0 where
  pub got : List ℕ
  pub came : Consumes old now got
  pub many : length got ≡ n
  pub same : lost ≡ false → kept ≡ got
