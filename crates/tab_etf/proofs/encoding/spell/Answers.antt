use Rattle.std.proofs.Common.{◌∙◌, sym, rules}
use Rattle.std.proofs.lemmas.List.{append-nil}
use Rattle.tab_etf.proofs.WritingLemmas.{writes_as, writes_then, writes_done, writes_sound, writes_cut, writes_rose}
use Rattle.tab_etf.proofs.encoding.spell.Goals as goal

pub returns-then-has_failed-clause-part : goal.returns-then-has_failed-clause-part
returns-then-has_failed-clause-part g c =
    let all = writes_as (writes_then (writes_then c.put.ensures c.put_outline.ensures) c.write_out.ensures.writes) (append-nil _) in
    writes_cut c.new-writer.ensures.output all (sym c.has_failed.ensures ∙ c.if-has_failed.true) (search rules)

pub returns-then-has_failed-clause-rose : goal.returns-then-has_failed-clause-rose
returns-then-has_failed-clause-rose g c =
    let all = writes_then (writes_then c.put.ensures c.put_outline.ensures) c.write_out.ensures.writes in
    writes_rose c.new-writer.ensures.output all (sym c.has_failed.ensures ∙ c.if-has_failed.true) (search rules)

pub returns-clause-ok : goal.returns-clause-ok
returns-clause-ok g c =
    let all = writes_as (writes_then (writes_then c.put.ensures c.put_outline.ensures) c.write_out.ensures.writes) (append-nil _) in
    writes_done c.new-writer.ensures.output all (sym c.has_failed.ensures ∙ c.if-has_failed.false) c.write_out.ensures.none (search rules)

pub returns-clause-same : goal.returns-clause-same
returns-clause-same g c =
    let all = writes_then (writes_then c.put.ensures c.put_outline.ensures) c.write_out.ensures.writes in
    writes_sound c.new-writer.ensures.output all (sym c.has_failed.ensures ∙ c.if-has_failed.false) c.write_out.ensures.none (search rules)
