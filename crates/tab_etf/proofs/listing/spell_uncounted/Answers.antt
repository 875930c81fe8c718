use Rattle.std.proofs.Common.{◌∙◌, ◌∷◌, ◌++◌, [], arith, length, length-append, sym, rules}
use Rattle.tab_term.specs.Canon.{canons}
use Rattle.tab_etf.proofs.ListingLemmas.{got_all, got_length, got_part, none_over, some_map}
use Rattle.tab_etf.proofs.WritingLemmas.{writes_as, writes_then}
use Rattle.tab_etf.proofs.listing.spell_uncounted.Goals as goal

pub returns-then-has_failed-clause-part : goal.returns-then-has_failed-clause-part
returns-then-has_failed-clause-part c =
    let all = writes_then (writes_then (writes_then c.put.ensures c.put_within-found.ensures.part.1) c.put-2.ensures) c.write_out.ensures.writes in
    got_part c.new-writer.ensures.output all (sym c.has_failed.ensures ∙ c.if-has_failed.true) (search rules)

pub returns-clause-all : goal.returns-clause-all
returns-clause-all c =
    some_map c.put_within-found.result
    (λ w. got_all c.new-writer.ensures.output (writes_as (writes_then (writes_then (writes_then c.put.ensures w) c.put-2.ensures) c.write_out.ensures.writes) (search rules)) (sym c.has_failed.ensures ∙ c.if-has_failed.false) c.write_out.ensures.none (search rules))
    c.put_within-found.ensures.all

pub returns-clause-part : goal.returns-clause-part
returns-clause-part c =
    let all = writes_then (writes_then (writes_then c.put.ensures c.put_within-found.ensures.part.1) c.put-2.ensures) c.write_out.ensures.writes in
    (_, got_all c.new-writer.ensures.output all (sym c.has_failed.ensures ∙ c.if-has_failed.false) c.write_out.ensures.none (search rules))

pub returns-clause-over : goal.returns-clause-over
returns-clause-over c =
    let part = c.put_within-found.ensures.part in
    let all = writes_then (writes_then (writes_then c.put.ensures part.1) c.put-2.ensures) c.write_out.ensures.writes in
    let len = got_length c.new-writer.ensures.output all (sym c.has_failed.ensures ∙ c.if-has_failed.false) c.write_out.ensures.none in
    none_over c.put_within-found.result c.args.most (length c.args.device.now.inner.items) (length (canons c.args.ts.now)) (length c.put_within-found.new.writer.device.now.inner.items)
    (omega (arith, len, part.2, length-append part.0 (106 ∷ []), length-append (part.0 ++ 106 ∷ []) [], c.put-2.ensures.puts.text.longer, c.write_out.ensures.writes.puts.text.longer))
    c.put_within-found.ensures.over
