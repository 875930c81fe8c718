use Rattle.std.proofs.Common.{◌≡◌, ap, ◌∙◌}
use Rattle.std.proofs.lemmas.Result.{IfOk-weaker}
use Rattle.tab_term.specs.Order.{term_cmp}
use Rattle.tab_map.specs.Entries.{insert_entry, remove_entry}
use Rattle.tab_index.specs.FurtherOf.{HasCount}
use Rattle.tab_index.proofs.FurtherLemmas.{count_put, count_taken}
use Rattle.tab_index.proofs.further.with_count.Goals as goal

pub returns-then-count-eq0 : goal.returns-then-count-eq0
returns-then-count-eq0 c =
    let cs = c.args.counts.now in
    let v = c.args.value.now in
    IfOk-weaker c.removed.result (λ ds. ds ≡ remove_entry term_cmp v cs) (λ ds. HasCount cs ds v c.args.count)
    (λ ds is. count_taken cs ds v c.args.count c.requires c.if-count-eq0.true is) c.removed.ensures

pub returns : goal.returns
returns c =
    let cs = c.args.counts.now in
    let v = c.args.value.now in
    let n = c.args.count in
    IfOk-weaker c.inserted.result (λ ds. ds ≡ insert_entry term_cmp (c.in_ok-try_clone.field-0, n) cs) (λ ds. HasCount cs ds v n)
    (λ ds is. count_put cs ds v n c.requires c.if-count-eq0.false (is ∙ ap (λ x. insert_entry term_cmp (x, n) cs) c.in_ok-try_clone.ensures)) c.inserted.ensures
