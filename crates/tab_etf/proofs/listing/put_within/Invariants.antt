use Rattle.std.proofs.Common.{◌≡◌, ◌≤◌, ◌+◌, ◌-◌, ◌^◌, min, ◌&&◌}
use Rattle.tab_term.specs.Canon.{all_bytes, canons}
use Rattle.tab_term.specs.Data.{plain_terms, count}
use Rattle.tab_etf.specs.Listings.{held, faults_of}
use Rattle.tab_etf.proofs.SharedElements.{WritesAllBut}
use Rattle.tab_etf.proofs.listing.put_within.Given as goal

-- with what is left, it is the list
abbrev pub invariant-loop-t : goal.invariant-loop-t
invariant-loop-t l = record {
  most_count : l.count ≤ 2 ^ 64 - 1;
  count : min (l.count + count (plain_terms l.t-iterator)) (2 ^ 64 - 1) ≡ min (count l.ts) (2 ^ 64 - 1);
  bytes : (l.bytes && all_bytes (plain_terms l.t-iterator)) ≡ all_bytes l.ts;
  written : WritesAllBut held faults_of l.initial.writer l.writer (canons (plain_terms l.t-iterator)) (canons l.ts);
}
