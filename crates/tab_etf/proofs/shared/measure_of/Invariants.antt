use Rattle.std.proofs.Common.{◌≡◌, ◌≤◌, ◌+◌, ◌-◌, ◌^◌, min, length, ◌&&◌}
use Rattle.tab_term.specs.Canon.{all_bytes, canons}
use Rattle.tab_term.specs.Data.{plain_terms, count}
use Rattle.tab_etf.proofs.shared.measure_of.Given as goal

-- with what is left, it is the measure of the list
abbrev pub invariant-loop-t : goal.invariant-loop-t
invariant-loop-t l = record {
  most : l.count ≤ 2 ^ 64 - 1;
  count : min (l.count + count (plain_terms l.t-iterator)) (2 ^ 64 - 1) ≡ min (count l.ts) (2 ^ 64 - 1);
  longest : l.len ≤ 2 ^ 64 - 1;
  len : min (l.len + length (canons (plain_terms l.t-iterator))) (2 ^ 64 - 1) ≡ min (length (canons l.ts)) (2 ^ 64 - 1);
  bytes : (l.bytes && all_bytes (plain_terms l.t-iterator)) ≡ all_bytes l.ts;
}
