use Rattle.std.proofs.Common.{sym, ap, ◌∙◌, subst}
use Rattle.std.proofs.lemmas.Result.{on_ok_weaker}
use Rattle.tab_term.specs.View.{term}
use Rattle.tab_model.specs.Tables.{delete}
use Rattle.tab_model.specs.WholeTables.{element}
use Rattle.tab_index.specs.FurtherOf.{IsFurtherOf, IsForgotten}
use Rattle.tab_index.specs.IndexOf.{IsWithout, IsIndexOf, has_pair}
use Rattle.tab_index.proofs.FurtherRows.{key_gone}
use Rattle.tab_index.proofs.RowsLemmas.{one_gone, none_else, all_gone}
use Rattle.tab_index.proofs.index.Index.forget.Goals as goal

pub loop-row-preserved : goal.loop-row-preserved
loop-row-preserved c =
    let p = c.args.self.now.position in
    let k = c.args.key.now in
    let es = c.loop-row.self.keys in
    let fs = c.take.new.self.keys in
    let x = term c.in-Some.row.now in
    let value = c.element.ensures ∙ ap (λ q. element q x) c.loop-row.invariant.position in
    let less = subst (λ x. IsWithout es fs x (term k)) value c.in_ok-take.ensures.ok in
    record {
      position = c.take.ensures.position ∙ c.loop-row.invariant.position;
      pairs = λ v j. one_gone p c.loop-row.row-iterator c.next.new.self x k es fs v j _ c.in-Some.ensures.steps less (c.loop-row.invariant.pairs v j);
      filled = less.filled c.loop-row.invariant.filled;
      further = c.take.ensures.further ∙ c.loop-row.invariant.further;
    }

pub returns-clause-ok : goal.returns-clause-ok
returns-clause-ok c =
    let p = c.args.self.now.position in
    let k = c.args.key.now in
    let rows = c.args.rows.now.1 in
    let es = c.args.self.now.keys in
    let fs = c.loop-row.self.keys in
    on_ok_weaker c.forget.result
    (λ w. subst (λ q. IsIndexOf (delete rows (term k)) q fs) (sym c.loop-row.invariant.position)
    (all_gone p rows c.into_iter-row-iterator.result k es fs (c.into_iter-row-iterator.ensures.into_iter_gives ∙ c.at-row-items.ensures) c.requires.index c.loop-row.invariant.filled
    (λ v j. none_else p c.loop-row.row-iterator k v j (has_pair fs v j) c.in-None.ensures.steps.0 ∙ c.loop-row.invariant.pairs v j)))
    c.forget.ensures

pub returns-clause-further : goal.returns-clause-further
returns-clause-further c =
    let p = c.args.self.now.position in
    let k = c.args.key.now in
    let rows = c.args.rows.now.1 in
    let ns = c.forget.new.self.by_key in
    on_ok_weaker c.forget.result
    (λ w. subst (λ q. IsFurtherOf (delete rows (term k)) q ns) (sym c.loop-row.invariant.position)
    (key_gone p rows k c.args.self.now.further.by_key ns c.requires.further (subst (λ m. IsForgotten m ns (term k)) (ap (λ z. z.by_key) c.loop-row.invariant.further) w)))
    c.forget.ensures
