use Rattle.std.proofs.Common.{rules, sym, ap, ◌∙◌}
use Rattle.tab_term.specs.Pattern.{matches}
use Rattle.tab_term.specs.View.{term}
use Rattle.tab_lists.proofs.PassedLemmas.{passed_next}
use Rattle.tab_lists.proofs.passed.passed_over.Goals as goal

pub loop-n-preserved : goal.loop-n-preserved
loop-n-preserved c =
    passed_next (matches c.args.last.now) c.args.row.now c.loop-n.n c.index-row-n.result (term c.in-Some.record.now) c.loop-n-test.true c.index-row-n.is c.loop-n.invariant
    (ap (λ e. e.1) (sym c.pair.ensures) ∙ c.in-Some.ensures) (c.if-differs_in.ensures (search rules))
