use Rattle.std.proofs.Common.{◌≡◌, ◌≤◌, length}
use Rattle.arrayvec.specs.ArrayVec.{array_vec_len}
use Rattle.tab_core.specs.Parts.{parts_of}
use Rattle.tab_core.proofs.ReadyLemmas.{AreListed}
use Rattle.tab_core.proofs.machine.Machine.ready.Given as goal

abbrev pub invariant-loop-place : goal.invariant-loop-place
invariant-loop-place g l = record {
  all : l.place-end ≡ length l.self.sessions;
  room : array_vec_len l.ready ≤ l.place;
  listed : AreListed (parts_of l.self) l.ready.items l.place;
}
