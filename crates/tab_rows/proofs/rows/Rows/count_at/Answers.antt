use Rattle.std.proofs.Common.{ap, sym, subst, ◌∙◌, ◌≤◌, length}
use Rattle.tab_term.specs.Data.{count}
use Rattle.tab_term.specs.View.{term}
use Rattle.tab_records.proofs.NumbersLemmas.{count-plain}
use Rattle.tab_rows.proofs.SizeLemmas.{at_within}
use Rattle.tab_rows.proofs.rows.Rows.count_at.Goals as goal

pub returns-in-Some-clause-count : goal.returns-in-Some-clause-count
returns-in-Some-clause-count c = c.len.ensures ∙ ap count (ap (λ e. e.1) c.pair.ensures ∙ c.in-Some.ensures) ∙ count-plain _

pub returns-in-None-clause-count : goal.returns-in-None-clause-count
returns-in-None-clause-count c = ap length (sym c.in-None.ensures)

pub returns-in-Some-clause-within : goal.returns-in-Some-clause-within
returns-in-Some-clause-within c = subst (λ n. n ≤ length c.args.self.now.1) (sym (returns-in-Some-clause-count c)) (at_within c.args.self.now.1 (term c.args.key.now))
