use Rattle.std.proofs.Common.{◌≡◌, take}
use Rattle.tab_uses.specs.Mirrors.{rows_after}
use Rattle.tab_uses.proofs.mirrors.feed_all.Given as goal

-- the mirror has taken in the terms so far
abbrev pub invariant-loop-item : goal.invariant-loop-item
invariant-loop-item l = record {
  table : l.mirror.table ≡ l.initial.mirror.table;
  kind : l.mirror.kind ≡ l.initial.mirror.kind;
  rows : l.mirror.rows ≡ rows_after l.initial.mirror (take l.item-index l.told);
}
