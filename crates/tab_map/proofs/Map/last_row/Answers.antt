use Rattle.std.proofs.Common.{sym, ap, ◌∙◌, length, arith}
use Rattle.std.proofs.lemmas.List.{take-append-drop}
use Rattle.tab_map.proofs.FromLastLemmas.{dropped_sorted}
use Rattle.tab_map.proofs.Map.last_row.Goals as goal

pub invariant_of-result : goal.invariant_of-result
invariant_of-result g c =
    (dropped_sorted g.K.Ord.cmp _ c.args.entries.now.items _ (ap (λ row. row.items) c.in_ok-new.ensures.ok ∙ c.in_ok-items.ensures ∙ c.in_ok-last.ensures.tail) c.requires.sorted, tt)

pub returns-clause-taken : goal.returns-clause-taken
returns-clause-taken g c =
    let row = ap (λ row. row.items) c.in_ok-new.ensures.ok ∙ c.in_ok-items.ensures ∙ c.in_ok-last.ensures.tail in
    rw (row, c.in_ok-last.ensures.items) (sym (take-append-drop _ _))

pub returns-clause-count : goal.returns-clause-count
returns-clause-count g c =
    let row = ap (λ row. length row.items) c.in_ok-new.ensures.ok ∙ ap length c.in_ok-items.ensures in
    omega (arith, row, c.in_ok-last.ensures.tail_len, c.len.ensures, c.requires.enough)
