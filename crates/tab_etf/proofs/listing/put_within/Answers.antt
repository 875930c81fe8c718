use Rattle.std.proofs.Common.{ap, sym, ◌∙◌, arith, inr, length, length-append, ◌&&◌}
use Rattle.tab_term.specs.Canon.{all_bytes, canons}
use Rattle.tab_term.specs.Data.{plain_terms, count as count_of}
use Rattle.tab_term.specs.View.{term}
use Rattle.tab_etf.proofs.SharedElements.{and_assoc, but_all, but_less, but_none, canons_first, canons_end, count_canons}
use Rattle.tab_etf.proofs.listing.put_within.Goals as goal

pub loop-t-init : goal.loop-t-init
loop-t-init c =
    let whole = ap plain_terms c.into_iter-t-iterator.ensures.into_iter_gives ∙ c.iter-t-items.ensures in
    record {
      most_count = omega arith;
      count = omega (arith, ap count_of whole);
      bytes = ap all_bytes whole;
      written = but_all _ (ap canons whole);
    }

pub loop-t-preserved : goal.loop-t-preserved
loop-t-preserved c =
    let t = term c.in-Some.t.now in
    let steps = c.in-Some.ensures.steps in
    let b = c.loop-t.bytes in
    let left = all_bytes (plain_terms c.next.new.self) in
    record {
      most_count = omega (arith, c.saturating_add-count.ensures);
      count = omega (arith, c.loop-t.invariant.count, c.loop-t.invariant.most_count, c.saturating_add-count.ensures, ap (λ ts. count_of (plain_terms ts)) steps);
      bytes = and_assoc b c.is_byte_term-bytes.result left ∙ ap (λ z. b && (z && left)) c.is_byte_term-bytes.ensures ∙ ap (λ ts. b && all_bytes (plain_terms ts)) (sym steps) ∙ c.loop-t.invariant.bytes;
      written = but_less c.loop-t.invariant.written c.put.ensures (canons_first c.loop-t.t-iterator c.next.new.self t steps);
    }

pub returns-clause-all : goal.returns-clause-all
returns-clause-all c = but_none c.loop-t.invariant.written (canons_end c.loop-t.t-iterator c.in-None.ensures.steps.0)

pub returns-clause-part : goal.returns-clause-part
returns-clause-part c =
    let w = c.loop-t.invariant.written in
    (w.0, w.1, omega (arith, ap length w.2, length-append w.0 (canons (plain_terms c.loop-t.t-iterator))))

pub returns-then-len-most-clause-part : goal.returns-then-len-most-clause-part
returns-then-len-most-clause-part c =
    let w = but_less c.loop-t.invariant.written c.put.ensures (canons_first c.loop-t.t-iterator c.next.new.self (term c.in-Some.t.now) c.in-Some.ensures.steps) in
    (w.0, w.1, omega (arith, ap length w.2, length-append w.0 (canons (plain_terms c.next.new.self))))

pub returns-then-count-ge4294967295-clause-over : goal.returns-then-count-ge4294967295-clause-over
returns-then-count-ge4294967295-clause-over c =
    inr (omega (arith, count_canons c.args.ts.now, c.loop-t.invariant.count, ap (λ ts. count_of (plain_terms ts)) c.in-None.ensures.steps.0, c.if-count-ge4294967295.true))
