use Rattle.tab_term.specs.Pattern.{matches}
use Rattle.tab_lists.proofs.PassedLemmas.{candidate}
use Rattle.tab_lists.proofs.passed.next_candidate.Goals as goal

pub returns : goal.returns
returns c = candidate (matches c.args.last.now) (λ e. e.now) c.args.entries.now c.row.result.now c.row.ensures.0 c.nth.new.self c.passed_over.result c.nth.result c.row.ensures.1 c.passed_over.ensures.within c.passed_over.ensures.none c.nth.ensures
