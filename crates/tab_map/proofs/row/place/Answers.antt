use Rattle.std.proofs.Common.{rules, subst, IfOk, IfErr}
use Rattle.std.proofs.lemmas.Fn.{always_returns_same}
use Rattle.std.proofs.lemmas.List.{map-id}
use Rattle.std.proofs.lemmas.Result.{IfErr-weaker}
use Rattle.std.specs.Ordering.{ordering_reverse}
use Rattle.tab_map.specs.Entries.{Ascends}
use Rattle.tab_map.specs.Places.{HasAt, IsGap}
use Rattle.tab_map.proofs.BinarySearchLemmas.{answer_found, answer_gap}
use Rattle.tab_map.proofs.row.place.Goals as goal

pub returns-clause-found : goal.returns-clause-found
returns-clause-found g c =
    let position = c.binary_search_by.ensures.position (λ e. ordering_reverse (g.K.Ord.cmp c.args.sought.now e.0)) (always_returns_same _ _ _ (λ a r f' k. search rules)) in
    subst (λ es. IfOk c.binary_search_by.result (λ n. HasAt g.K.Ord.cmp c.args.sought.now es n)) (map-id c.args.items.now) (answer_found g.K.Ord.cmp (λ e. e) c.args.sought.now c.args.items.now c.binary_search_by.result position c.binary_search_by.ensures.bound)

pub returns-clause-gap : goal.returns-clause-gap
returns-clause-gap g c =
    let position = c.binary_search_by.ensures.position (λ e. ordering_reverse (g.K.Ord.cmp c.args.sought.now e.0)) (always_returns_same _ _ _ (λ a r f' k. search rules)) in
    let gap = subst (λ es. IfErr c.binary_search_by.result (λ n. Ascends g.K.Ord.cmp es → IsGap g.K.Ord.cmp c.args.sought.now es n)) (map-id c.args.items.now) (answer_gap g.met.K.Ord.total (λ e. e) c.args.sought.now c.args.items.now c.binary_search_by.result position c.binary_search_by.ensures.bound) in
    IfErr-weaker c.binary_search_by.result _ (IsGap g.K.Ord.cmp c.args.sought.now c.args.items.now) (λ n f. f c.requires) gap
