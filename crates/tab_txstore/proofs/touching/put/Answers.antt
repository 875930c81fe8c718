use Rattle.std.proofs.Common.{sym, ap, ◌∙◌}
use Rattle.tab_term.specs.Order.{bytes_cmp, term_cmp}
use Rattle.tab_map.specs.Entries.{insert_entry}
use Rattle.tab_txstore.specs.Overlays.{Touched}
use Rattle.tab_txstore.proofs.TouchingLemmas.{revised_there, first_touched}
use Rattle.tab_txstore.proofs.touching.put.Goals as goal

pub returns-then-contains_key-clause-ok : goal.returns-then-contains_key-clause-ok
returns-then-contains_key-clause-ok c =
    c.in_ok-revise.ensures.ok
    ∙ revised_there (λ (es : Touched). insert_entry term_cmp c.args.entry es) c.args.table c.args.overlay.now (sym c.contains_key.ensures.found ∙ c.if-contains_key.true)

pub returns-clause-ok : goal.returns-clause-ok
returns-clause-ok c =
    let f = λ (es : Touched). insert_entry term_cmp c.args.entry es in
    c.in_ok-insert.ensures.ok
    ∙ ap (λ es. insert_entry bytes_cmp (c.args.table, es) c.args.overlay.now) (c.in_ok-insert_entry.ensures.ok ∙ ap f c.new-keys.ensures)
    ∙ first_touched f c.args.table c.args.overlay.now (sym c.contains_key.ensures.found ∙ c.if-contains_key.false)
