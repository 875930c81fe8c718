use Rattle.std.proofs.Common.{sym, ap, ◌+◌, ◌∙◌, subst}
use Rattle.std.proofs.lemmas.Result.{on_ok_weaker}
use Rattle.tab_term.specs.Order.{term_cmp}
use Rattle.tab_term.specs.View.{term}
use Rattle.tab_map.specs.Entries.{insert_entry}
use Rattle.tab_index.specs.FurtherOf.{IsRaised}
use Rattle.tab_index.proofs.FurtherLemmas.{raised}
use Rattle.tab_index.proofs.further.Further.raise.Goals as goal

pub returns : goal.returns
returns c =
    let ms = c.args.self.now.by_key in
    let v = c.args.value.now in
    let k = c.args.key.now in
    let ds = c.in_ok-raised.raised in
    on_ok_weaker c.insert.result
    (λ h. subst (λ ns. IsRaised ms ns (term v) (term k)) (sym (h ∙ ap (λ x. insert_entry term_cmp (x, ds) ms) c.in_ok-try_clone.ensures))
    (raised ms v k c.in_ok-counts.counts ds c.in_ok-count.count c.in_ok-counts.ensures.ascends c.in_ok-counts.ensures.counts (c.in_ok-count.ensures ∙ ap (λ n. n + 1) c.count_in.ensures.count) c.in_ok-raised.ensures))
    c.insert.ensures.ok
