-- The exit statuses and the lines on standard error. Source: this project's own rule.
use Rattle.std.specs.Prelude.{◌≡◌, ℕ, ◌<◌, ◌-◌, ◌^◌, List, [], ◌∷◌, ◌++◌, take, Option, Some, None, codes, ◌⊎◌, Result, Ok, Err, IfSome, length}
use Rattle.clap.specs.declared.error.kind.ErrorKind.{ErrorKind}
use Rattle.clap.specs.declared.error.kind.ErrorKind.TheVariants as kind
use Rattle.std.specs.Io.KnownBytes.{Appends, Keeps}
use Rattle.tab_session.specs.Replays.{Replayed, Faults, IsOneMore}
use Rattle.tab_session.specs.declared.ended.Ended.{Ended}
use Rattle.tab_session.specs.declared.ended.Ended.TheVariants.{Damaged, Device, TooLong, NoMemory}
use Rattle.tabd.specs.declared.ending.End.{End}
use Rattle.tabd.specs.declared.ending.End.TheVariants.{Done, WrongWords, Stopped}
use Rattle.tab_words.specs.declared.parsing.Run.{Run}
use Rattle.tab_words.specs.declared.parsing.Run.TheVariants.{Replay, Serve}

-- 0: done, or help was asked for; 1: device, too long or no memory; 2: wrong words; 3: damaged input
abbrev pub status_of : End → ℕ
status_of Done = 0
status_of WrongWords = 2
status_of (Stopped Damaged) = 3
status_of (Stopped Device) = 1
status_of (Stopped TooLong) = 1
status_of (Stopped NoMemory) = 1

-- the line on standard error, with its line feed; the text of wrong words is the parser's
abbrev pub line_of : End → Option (List ℕ)
line_of Done = None
line_of WrongWords = None
line_of (Stopped Damaged) = Some (codes "tabd: damaged input" ++ 10 ∷ [])
line_of (Stopped Device) = Some (codes "tabd: device" ++ 10 ∷ [])
line_of (Stopped TooLong) = Some (codes "tabd: too long" ++ 10 ∷ [])
line_of (Stopped NoMemory) = Some (codes "tabd: no memory" ++ 10 ∷ [])

-- how words that ask for no run end the program: help and the version are shown, memory can run out
-- at the start, and else the words are wrong
abbrev pub end_of_words : ErrorKind → End
end_of_words kind.DisplayHelp = Done
end_of_words kind.DisplayVersion = Done
end_of_words kind.OutOfMemory = Stopped NoMemory
end_of_words k = WrongWords

-- why a text was not put on a device
abbrev pub IsTextFault : Ended → Type 0
IsTextFault e = (e ≡ Device) ⊎ (e ≡ NoMemory)

-- how the program ends once the parser's text is shown: help that can't be written is a device fault, and its text takes memory
abbrev pub IsShown : End → End → Type 0
IsShown Done end = (end ≡ Done) ⊎ ((e : Ended) × IsTextFault e × (end ≡ Stopped e))
IsShown end shown = shown ≡ end

-- what of the output and of the errors holds by where the parser's text goes: of help on the errors, of a mistake on the
-- output, and of want of memory, which has no text, on both
abbrev pub OnStreams : End → Type 0 → Type 0 → Type 0
OnStreams Done output errors = errors
OnStreams WrongWords output errors = output
OnStreams (Stopped e) output errors = output × errors

-- the errors have this line more, or a beginning of it where they failed; where there is no line, nothing
abbrev pub TellsEnd : Option (List ℕ) → Option (List ℕ) → Option (List ℕ) → ℕ → ℕ → Type 0
TellsEnd None old new faults faults' = Keeps old new × (faults' ≡ faults)
TellsEnd (Some line) old new faults faults' = (Appends old new line × (faults' ≡ faults)) ⊎ (((n : ℕ) × Appends old new (take n line)) × IsOneMore faults faults')

-- how a replay ends the program
abbrev pub end_of : Result (Unit {0}) Ended → End
end_of (Ok u) = Done
end_of (Err e) = Stopped e

-- what the input has left and what the output holds, where that is known, and how often each has failed
pub record Streams : Type 0 where
  pub input : Option (List ℕ)
  pub output : Option (List ℕ)
  pub input_faults : ℕ
  pub output_faults : ℕ

-- the same by its four parts
abbrev pub streams : Option (List ℕ) → Option (List ℕ) → ℕ → ℕ → Streams
streams i o f g = record { input = i; output = o; input_faults = f; output_faults = g }

-- what holds of a replay, by how many items each session's post holds, and what of a server
abbrev pub OfRun : Run → (ℕ → Type 0) → Type 0 → Type 0
OfRun (Replay outbox) replays serves = replays outbox
OfRun (Serve a s) replays serves = serves

-- the program replayed its input onto its output, and ends by a device fault exactly where one rose
abbrev pub Plays : ℕ → Streams → Streams → End → Type 0
Plays outbox old new end = (r : Result (Unit {0}) Ended) × (end ≡ end_of r)
    × IfSome old.input (λ stream. length stream < 2 ^ 64 - 1 → Replayed outbox stream new.input old.output new.output r)
    × Faults old.input_faults new.input_faults old.output_faults new.output_faults r
