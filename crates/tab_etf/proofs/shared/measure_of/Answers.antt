use Rattle.std.proofs.Common.{ap, sym, ◌∙◌, arith, length, length-append, ◌&&◌}
use Rattle.tab_term.specs.Canon.{all_bytes, canon, canons}
use Rattle.tab_term.specs.Data.{plain_terms, count as count_of}
use Rattle.tab_term.specs.View.{term}
use Rattle.tab_etf.proofs.SharedElements.{and_assoc, canons_first, canons_end}
use Rattle.tab_etf.proofs.shared.measure_of.Goals as goal

pub loop-t-preserved : goal.loop-t-preserved
loop-t-preserved c =
    let t = term c.in-Some.t.now in
    let steps = c.in-Some.ensures.steps in
    let b = c.loop-t.bytes in
    let left = all_bytes (plain_terms c.next.new.self) in
    record {
      most = omega (arith, c.saturating_add-count.ensures);
      count = omega (arith, c.loop-t.invariant.count, c.loop-t.invariant.most, c.saturating_add-count.ensures, ap (λ ts. count_of (plain_terms ts)) steps);
      longest = omega (arith, c.saturating_add-len.ensures);
      len = omega (arith, c.loop-t.invariant.len, c.loop-t.invariant.longest, c.spelled_len.ensures, c.saturating_add-len.ensures, ap length (canons_first c.loop-t.t-iterator c.next.new.self t steps), length-append (canon t) (canons (plain_terms c.next.new.self)));
      bytes = and_assoc b c.is_byte_term-bytes.result left ∙ ap (λ z. b && (z && left)) c.is_byte_term-bytes.ensures ∙ ap (λ ts. b && all_bytes (plain_terms ts)) (sym steps) ∙ c.loop-t.invariant.bytes;
    }

pub returns-clause-len : goal.returns-clause-len
returns-clause-len c = omega (arith, c.loop-t.invariant.len, c.loop-t.invariant.longest, ap length (canons_end c.loop-t.t-iterator c.in-None.ensures.steps.0))
