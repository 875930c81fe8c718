-- Bytes on their way to a device. Some are kept until there are enough of them, and after a fault no more are written.
use Rattle.std.specs.Prelude.{◌≡◌, ℕ, ◌+◌, ◌<◌, ◌≤◌, ◌^◌, ◌-◌, min, List, [], ◌++◌, length, take, Bool, true, false, Option, Some, None}
use Rattle.std.specs.Io.KnownBytes.{Appends}
use Rattle.tab_etf.specs.Frames.{frame}
use Rattle.tab_etf.specs.declared.framing.FrameFault.{FrameFault}
use Rattle.tab_etf.specs.declared.framing.FrameFault.TheVariants.{FrameTooLong, Device}
use Rattle.tab_etf.specs.declared.writer.Writer.{Writer}

-- a writer: whether a write failed, how often its device did, what the device holds, and what waits to be written
pub record Output : Type 0 where
  pub failed : Bool
  pub faults : ℕ
  pub sent : Option (List ℕ)  -- what the device holds, where that is known
  pub kept : List ℕ

-- a writer as an output, by what its device tells of its bytes and of its faults
abbrev pub output : {W : Type 0} → (W → Option (List ℕ)) → (W → ℕ) → Writer W → Output
output contents faults w = record { failed = w.failed; faults = faults w.device.now; sent = contents w.device.now; kept = w.bytes.items }

-- how many faults there are, if there were f before
abbrev pub HasFaults : ℕ → Bool → ℕ → Type 0
HasFaults f false n = n ≡ f
HasFaults f true n = n ≡ min (f + 1) (2 ^ 64 - 1)

-- once `more` is written too, the device holds the whole; after a fault it holds a beginning of it
abbrev pub Leads : Bool → List ℕ → List ℕ → List ℕ → List ℕ → Type 0
Leads false sent kept more whole = sent ++ (kept ++ more) ≡ whole
Leads true sent kept more whole = (n : ℕ) × (sent ≡ take n whole)

-- the device has no fewer bytes than before, and with these bytes next it comes to the same whole
pub record Grows (old : Output) (xs : List ℕ) (new : Output) (ys : List ℕ) (bytes : List ℕ) : Type 0 where
  pub longer : length xs ≤ length ys
  pub leads : (more whole : List ℕ) → Leads old.failed xs old.kept (bytes ++ more) whole → Leads new.failed ys new.kept more whole

-- the same where the device tells its bytes; one that told them goes on to tell them
abbrev pub KnownGrows : Output → Option (List ℕ) → Output → Option (List ℕ) → List ℕ → Type 0
KnownGrows old None new known bytes = Unit {0}
KnownGrows old (Some xs) new None bytes = ⊥
KnownGrows old (Some xs) new (Some ys) bytes = Grows old xs new ys bytes

-- these bytes are written next
pub record Puts (old new : Output) (bytes : List ℕ) : Type 0 where
  pub faults : (f : ℕ) → HasFaults f old.failed old.faults → HasFaults f new.failed new.faults
  pub text : KnownGrows old old.sent new new.sent bytes

-- a writer keeps its device, and these bytes are written next
pub record Writes {W : Type 0} (contents : W → Option (List ℕ)) (faults : W → ℕ) (old new : Writer W) (bytes : List ℕ) : Type 0 where
  pub same : new.device.ghost_name ≡ old.device.ghost_name
  pub puts : Puts (output contents faults old) (output contents faults new) bytes

-- bytes handed to the device: those that were kept, and these
abbrev pub Hands : Bool → ℕ → Option (List ℕ) → Bool → ℕ → Option (List ℕ) → List ℕ → Type 0
Hands failed faults sent failed' faults' sent' all =
    (kept bytes : List ℕ) → all ≡ kept ++ bytes
    → Puts (record { failed = failed; faults = faults; sent = sent; kept = kept }) (record { failed = failed'; faults = faults'; sent = sent'; kept = [] }) bytes

-- why the frame of a payload was not written, and what was
abbrev pub IsUnwritten : FrameFault → List ℕ → Option (List ℕ) → Option (List ℕ) → ℕ → ℕ → Type 0
IsUnwritten (FrameTooLong n) payload old new faults faults' = (4294967295 < length payload) × (n ≡ 4294967295) × (new ≡ old) × (faults' ≡ faults)
IsUnwritten Device payload old new faults faults' = (length payload ≤ 4294967295) × ((n : ℕ) × Appends old new (take n (frame payload))) × (faults' ≡ min (faults + 1) (2 ^ 64 - 1))
IsUnwritten _ payload old new faults faults' = ⊥
