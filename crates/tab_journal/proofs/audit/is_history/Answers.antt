use Rattle.std.proofs.Common.{sym, subst, ◌∙◌}
use Rattle.tab_journal.specs.Audits.{Enters}
use Rattle.tab_journal.proofs.AuditLemmas.{Goes, goes_start, goes_next, goes_end}
use Rattle.tab_journal.proofs.audit.is_history.Goals as goal

pub loop-entry-init : goal.loop-entry-init
loop-entry-init c =
    let log = c.args.entries.now.items in
    subst (Goes c.args.base.now log c.args.tables.now c.in_ok-now.now c.commits-commits.result) (sym (c.into_iter-entry-iterator.ensures.into_iter_gives ∙ c.iter-entry-items.ensures.rest))
    (subst (λ n. Goes c.args.base.now log c.args.tables.now c.in_ok-now.now n log) (sym c.commits-commits.ensures) (goes_start c.args.base.now log c.args.tables.now c.in_ok-now.now (c.in_ok-now.ensures ∙ c.tables.ensures.tables) c.tables.ensures.ordered))

pub loop-entry-preserved : goal.loop-entry-preserved
loop-entry-preserved c =
    let b = c.args.base.now in
    let log = c.args.entries.now.items in
    let rest = c.next.new.self in
    let e = c.in-Some.entry.now in
    let here = subst (Goes b log c.args.tables.now c.loop-entry.now c.loop-entry.commits) c.in-Some.ensures.steps c.loop-entry.invariant in
    subst (λ n. Goes b log c.args.tables.now c.in-Some-2.next n rest) (sym c.number_after-commits.ensures)
    (goes_next b log c.args.tables.now c.loop-entry.now c.loop-entry.commits e rest here c.in-Some-2.next (subst (Enters c.loop-entry.now c.loop-entry.commits e) c.in-Some-2.is c.in_ok-next.ensures))

pub returns : goal.returns
returns c =
    let b = c.args.base.now in
    let log = c.args.entries.now.items in
    goes_end b log c.args.tables.now c.loop-entry.now c.loop-entry.commits c.are_same_tables.result
    (subst (Goes b log c.args.tables.now c.loop-entry.now c.loop-entry.commits) c.in-None.ensures.steps.0 c.loop-entry.invariant) c.are_same_tables.ensures
