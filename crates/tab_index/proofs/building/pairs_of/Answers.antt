use Rattle.std.proofs.Common.{◌++◌, map, sym, ap, ◌∙◌, append_assoc}
use Rattle.std.proofs.lemmas.List.{map-append}
use Rattle.tab_model.specs.Names.{terms_list}
use Rattle.tab_rows.specs.Joined.{joined}
use Rattle.tab_index.specs.Pairs.{pair_of}
use Rattle.tab_index.proofs.building.pairs_of.Goals as goal

pub loop-entry-preserved : goal.loop-entry-preserved
loop-entry-preserved c =
    let was = c.loop-entry.invariant in
    let here = c.iter.result in
    let after = c.next.new.self in
    let f = pair_of c.args.position in
    record {
      before = was.before ++ here;
      all = append_assoc was.before here (joined after) ∙ ap (λ z. was.before ++ (z ++ joined after)) (c.iter.ensures ∙ ap (λ e. terms_list e.1) c.pair.ensures) ∙ ap (λ z. was.before ++ joined z) (sym c.in-Some.ensures.steps) ∙ was.all;
      done = c.in_ok-add_pairs.ensures ∙ ap (λ z. z ++ map f here) was.done ∙ sym (map-append f was.before here);
    }
