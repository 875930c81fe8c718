use Rattle.std.proofs.Common.{◌≡◌, is_lt, rules}
use Rattle.std.proofs.lemmas.Fn.{always_returns_same}
use Rattle.std.proofs.lemmas.List.Sorted.{ranks_by}
use Rattle.std.proofs.lemmas.Result.{on_ok_weaker}
use Rattle.tab_index.specs.Pairs.{Pair, value_cmp}
use Rattle.tab_index.proofs.PairsLemmas.{value_total}
use Rattle.tab_index.proofs.building.sort_pairs.Goals as goal

pub returns-clause-sorted : goal.returns-clause-sorted
returns-clause-sorted c =
    on_ok_weaker c.sort_by.result
    (λ sorted. sorted (λ a b. is_lt (value_cmp a b)) (ranks_by value_total (λ (q : Pair). q))
    (always_returns_same _ (λ a r. is_lt r ≡ is_lt (value_cmp a.0.now a.1.0.now)) _ (λ a r f' k. search rules)))
    c.sort_by.ensures.sorted
