-- The order of terms is total.
use Rattle.std.specs.Cmp.{IsTotalOrder}
use Rattle.std.proofs.lemmas.Cmp.{on_total, nat_list_cmp_total}
use Rattle.tab_term.specs.View.{term}
use Rattle.tab_term.specs.Canon.{canon}
use Rattle.tab_term.specs.Order.{term_cmp}

pub term_total : IsTotalOrder term_cmp
term_total = on_total (λ t. canon (term t)) nat_list_cmp_total
