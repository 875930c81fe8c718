use Rattle.std.proofs.Common.{◌≡◌, ◌*◌, ◌+◌, ◌-◌, List}
use Rattle.tab_term.specs.Data.{no_pair}
use Rattle.tab_term.specs.View.{terms}
use Rattle.tab_etf.specs.Runs.{Entry, put_all, Holds}
use Rattle.tab_etf.specs.Reading.{times, pairs_from, term_at}
use Rattle.tab_etf.proofs.TimesLemmas.{with_front}
use Rattle.tab_etf.proofs.decoding.+read.Given as goal

abbrev pub decreases-term_of : goal.decreases-term_of
decreases-term_of l = 6 * l.levels

abbrev pub decreases-behind_of : goal.decreases-behind_of
decreases-behind_of l = 6 * l.levels + 5

abbrev pub decreases-small_tuple_of : goal.decreases-small_tuple_of
decreases-small_tuple_of l = 6 * l.levels + 4

abbrev pub decreases-long_list_of : goal.decreases-long_list_of
decreases-long_list_of l = 6 * l.levels + 4

abbrev pub decreases-terms_of : goal.decreases-terms_of
decreases-terms_of l = 6 * l.levels + 3

abbrev pub invariant-terms_of-loop : goal.invariant-terms_of-loop
invariant-terms_of-loop l = with_front (terms l.items.items) (times (term_at l.levels) (l.count - l.counter) l.rest) ≡ times (term_at l.levels) l.count l.bytes

abbrev pub decreases-large_tuple_of : goal.decreases-large_tuple_of
decreases-large_tuple_of l = 6 * l.levels + 4

abbrev pub decreases-map_of : goal.decreases-map_of
decreases-map_of l = 6 * l.levels + 4

abbrev pub decreases-run_of : goal.decreases-run_of
decreases-run_of l = 6 * l.levels + 3

abbrev pub invariant-run_of-loop : goal.invariant-run_of-loop
invariant-run_of-loop l = (es : List Entry) × Holds l.run es × (pairs_from (term_at l.levels) l.count no_pair l.bytes ≡ put_all no_pair es (λ ps. pairs_from (term_at l.levels) (l.count - l.counter) ps l.rest))

abbrev pub decreases-pair_of : goal.decreases-pair_of
decreases-pair_of l = 6 * l.levels + 2
