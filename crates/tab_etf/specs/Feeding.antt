-- What a splitter holds, and what a piece of the stream does to it.
use Rattle.std.specs.Prelude.{◌≡◌, ℕ, List, ◌++◌, Option, Some, None, ◌⊎◌}
use Rattle.tab_etf.specs.declared.framing.FrameFault.{FrameFault}
use Rattle.tab_etf.specs.declared.framing.FrameFault.TheVariants.{FrameTooLong, NoMemory}
use Rattle.tab_etf.specs.Streams.{GoesOn, Stops}

-- the rest, and once a length was over the limit that length with the payloads before it
pub record Held : Type 0 where
  pub rest : List ℕ
  pub over : Option ℕ
  pub before : List (List ℕ)

-- these payloads are whole now
pub record IsGoing (old new : Held) (piece : List ℕ) (given : List (List ℕ)) : Type 0 where
  pub was : old.over ≡ None
  pub goes : GoesOn (old.rest ++ piece) given new.rest
  pub still : new.over ≡ None

-- a length over the limit stood next then, or stands next now, behind the payloads that are kept
abbrev pub IsStopped : FrameFault → Held → Held → List ℕ → Type 0
IsStopped NoMemory old new piece = (new ≡ old) × (old.over ≡ None)
IsStopped (FrameTooLong n) old new piece =
    ((old.over ≡ Some n) × (new ≡ old))
    ⊎ ((old.over ≡ None) × (new.over ≡ Some n) × Stops (old.rest ++ piece) new.before n)
IsStopped _ old new piece = ⊥
