use Rattle.std.proofs.Common.{[], refl}
use Rattle.tab_server.specs.Laws.{goes_none}
use Rattle.tab_server.proofs.Forwarding.{forwards_none}
use Rattle.tab_server.proofs.events.Events.keep_missed.Goals as goal

pub returns-then-not-is_full_of-clause-sent : goal.returns-then-not-is_full_of-clause-sent
returns-then-not-is_full_of-clause-sent g c = ([], forwards_none _ _ _ _ _ refl, goes_none g.O.Outlet.sent g.O.Outlet.broken _ _)
