use Rattle.std.proofs.Common.{◌≡◌, ◌^◌, ◌+◌, ◌-◌, ◌≤◌, drop}
use Rattle.tab_key.specs.Heads.{head}
use Rattle.tab_key.proofs.head.Given as goal

abbrev pub invariant-loop-byte : goal.invariant-loop-byte
invariant-loop-byte l =
    record {
      place : l.place ≡ 256 ^ (l.count - l.byte-index);
      room : l.number + l.place ≤ l.room;
      number : l.number + head (l.count - l.byte-index) (drop l.byte-index l.bytes) ≡ head l.count l.bytes;
    }
