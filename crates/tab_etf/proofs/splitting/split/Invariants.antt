use Rattle.std.proofs.Common.{ℕ, List, ◌≤◌, ◌-◌, length, drop}
use Rattle.tab_etf.specs.declared.framing.Frame.{Frame}
use Rattle.tab_etf.specs.Frames.{contents, AreTold}
use Rattle.tab_etf.specs.Streams.{GoesOn}
use Rattle.tab_etf.proofs.splitting.split.Given as goal

pub record IsSplitting (bytes : List ℕ) (fs : List Frame) (used : ℕ) : Type 0 where
  pub within : used ≤ length bytes
  pub goes : GoesOn bytes (contents fs) (drop used bytes)
  pub told : AreTold fs

abbrev pub invariant-loop-count : goal.invariant-loop-count
invariant-loop-count l = IsSplitting l.bytes l.frames.items l.used

abbrev pub decreases-loop-count : goal.decreases-loop-count
decreases-loop-count l = length l.bytes - l.used
