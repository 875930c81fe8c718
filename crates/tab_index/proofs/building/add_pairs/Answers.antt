use Rattle.std.proofs.Common.{◌++◌, ◌∷◌, [], map, sym, ap, ap₂, ◌∙◌, append_assoc, append-nil}
use Rattle.tab_term.specs.View.{term}
use Rattle.tab_index.specs.Pairs.{pair_of}
use Rattle.tab_index.proofs.PairsLemmas.{pairs_more}
use Rattle.tab_index.proofs.building.add_pairs.Goals as goal

pub loop-row-preserved : goal.loop-row-preserved
loop-row-preserved c =
    let was = c.loop-row.invariant in
    let x = term c.in-Some.row.now in
    record {
      before = was.before ++ x ∷ [];
      all = append_assoc was.before (x ∷ []) c.next.new.self ∙ ap (λ z. was.before ++ z) (sym c.in-Some.ensures.steps) ∙ was.all;
      done = pairs_more c.args.position c.args.pairs.now.items c.loop-row.pairs.items c.push.new.self.items was.before x c.new.result was.done
          (c.new.ensures ∙ ap₂ (λ a b. (a, b)) c.element.ensures c.key.ensures) c.in_ok-push.ensures.items;
    }

pub returns : goal.returns
returns c =
    let was = c.loop-row.invariant in
    was.done ∙ ap (λ z. c.args.pairs.now.items ++ map (pair_of c.args.position) z) (sym (append-nil was.before) ∙ ap (λ z. was.before ++ z) (sym c.in-None.ensures.steps.0) ∙ was.all)
