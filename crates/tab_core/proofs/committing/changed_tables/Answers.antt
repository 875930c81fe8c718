use Rattle.std.proofs.Common.{◌∙◌}
use Rattle.tab_core.proofs.Batches.{pass_starts, pass_goes_on, pass_ends}
use Rattle.tab_core.proofs.committing.changed_tables.Goals as goal

pub loop-update-init : goal.loop-update-init
loop-update-init g c = pass_starts c.args.tables.now c.new-changing.result c.args.subs.now c.args.ending.now.age c.args.ending.now.updates.now c.new-events.result.items (c.new-changing.ensures ∙ c.in_ok-share.ensures) c.new-events.ensures.items

pub loop-update-preserved : goal.loop-update-preserved
loop-update-preserved g c =
    pass_goes_on c.args.tables.now c.loop-update.changing c.in_ok-changing.changing c.args.subs.now c.args.ending.now.age c.args.ending.now.updates.now c.loop-update.update-index _ c.loop-update.events.items c.push_watched.new.events.items
    c.loop-update-test.true c.update-item.is c.in_ok-changing.ensures c.in_ok-push_watched.ensures c.loop-update.invariant

pub returns : goal.returns
returns g c =
    let p = pass_ends c.args.tables.now c.loop-update.changing c.in_ok-tables.tables c.args.subs.now c.args.ending.now.age c.args.ending.now.updates.now c.loop-update.update-index c.loop-update.events.items c.loop-update-test.false c.in_ok-tables.ensures c.loop-update.invariant in
    record { tables = p.0; events = p.1 }
