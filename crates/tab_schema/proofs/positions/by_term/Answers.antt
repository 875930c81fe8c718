use Rattle.std.proofs.Common.{sym, ap, ◌∙◌, subst, drop, ◌+◌, ◌-◌, arith}
use Rattle.tab_term.specs.Data.{atom}
use Rattle.tab_term.specs.Order.{term_cmp}
use Rattle.tab_map.specs.Entries.{Ascends, insert_entry}
use Rattle.tab_schema.specs.Positions.{AreNamed}
use Rattle.tab_schema.proofs.PositionsLemmas.{one_before}
use Rattle.tab_schema.proofs.positions.by_term.Goals as goal

pub loop-n-preserved : goal.loop-n-preserved
loop-n-preserved c =
    let n = c.loop-n.n in
    let i = n - 1 in
    let both = c.in_ok-insert-2.ensures.ok ∙ ap (insert_entry term_cmp (_, i + 3)) c.in_ok-insert.ensures.ok in
    subst (λ m. Ascends term_cmp m × AreNamed (i + 3) (drop i c.args.names.now) m) (sym both)
    (one_before c.args.names.now n i c.index-names-n.result c.loop-n.positions _ _ (omega (arith, c.loop-n-test.true)) c.loop-n.auto.n c.index-names-n.is (ap atom c.in_ok-try_clone.ensures.ok) c.number.ensures c.loop-n.invariant.0 c.loop-n.invariant.1)
