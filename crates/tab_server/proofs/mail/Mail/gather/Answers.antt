use Rattle.std.proofs.Common.{◌∙◌}
use Rattle.tab_server.proofs.Gathering.{adds_on, gathers_all, gathers_on}
use Rattle.tab_server.proofs.mail.Mail.gather.Goals as goal

pub returns-then-len-ge-KEPT : goal.returns-then-len-ge-KEPT
returns-then-len-ge-KEPT g c whole = gathers_all c.args.delivery _ _ _ _ _ _ c.loop.invariant.2 c.loop.invariant.3

pub returns-in-Some-take : goal.returns-in-Some-take
returns-in-Some-take g c whole = gathers_on c.args.delivery _ _ _ _ _ _ _ _ _ c.loop.invariant.2 c.loop.invariant.3 (c.take.ensures.gathers whole)

pub loop-preserved : goal.loop-preserved
loop-preserved g c = (tt, tt, adds_on c.args.delivery _ _ _ _ _ _ c.loop.invariant.2 c.in_default.ensures.adds.0, c.in_default.ensures.adds.1 ∙ c.loop.invariant.3)
