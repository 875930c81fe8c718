use Rattle.std.proofs.Common.{rules}
use Rattle.std.proofs.lemmas.Fn.{always_returns_same}
use Rattle.std.specs.Ordering.{ordering_reverse}
use Rattle.tab_map.proofs.BinarySearchLemmas.{answer_found, answer_gap}
use Rattle.tab_map.proofs.branches.place.Goals as goal

pub returns-clause-found : goal.returns-clause-found
returns-clause-found g c =
    let position = c.binary_search_by.ensures.position (λ b. ordering_reverse (g.K.Ord.cmp c.args.sought.now b.entry.0)) (always_returns_same _ _ _ (λ a r f' k. search rules)) in
    answer_found g.K.Ord.cmp (λ b. b.entry) c.args.sought.now c.args.branches.now c.binary_search_by.result position c.binary_search_by.ensures.bound

pub returns-clause-child : goal.returns-clause-child
returns-clause-child g c =
    let position = c.binary_search_by.ensures.position (λ b. ordering_reverse (g.K.Ord.cmp c.args.sought.now b.entry.0)) (always_returns_same _ _ _ (λ a r f' k. search rules)) in
    answer_gap g.met.K.Ord.total (λ b. b.entry) c.args.sought.now c.args.branches.now c.binary_search_by.result position c.binary_search_by.ensures.bound
