use Rattle.std.proofs.Common.{◌≡◌, is_lt, rules}
use Rattle.std.proofs.lemmas.Cmp.{then_total, on_total, nat_cmp_total, nat_list_cmp_total}
use Rattle.std.proofs.lemmas.Fn.{always_returns_same}
use Rattle.std.proofs.lemmas.List.Sorted.{ranks_by}
use Rattle.tab_etf.specs.declared.run.Key.{Key}
use Rattle.tab_etf.specs.Keyed.{spelling_at, key_order}
use Rattle.tab_etf.proofs.run.sort_keys.Goals as goal

pub returns-clause-sorted : goal.returns-clause-sorted
returns-clause-sorted c =
    let order = then_total (on_total (spelling_at c.args.spelled.now) nat_list_cmp_total) (on_total (λ (k : Key). k.pair) nat_cmp_total) in
    c.sort_unstable_by.ensures.sorted (λ k l. is_lt (key_order c.args.spelled.now k l)) (ranks_by order (λ (k : Key). k))
    (always_returns_same _ (λ a r. is_lt r ≡ is_lt (key_order c.args.spelled.now a.0.now a.1.0.now)) _ (λ a r f' k. search rules))
