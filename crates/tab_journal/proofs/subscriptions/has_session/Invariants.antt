use Rattle.std.proofs.Common.{◌≡◌, drop}
use Rattle.tab_model.specs.Log.{has_session}
use Rattle.tab_journal.proofs.subscriptions.has_session.Given as goal

abbrev pub invariant-loop-one : goal.invariant-loop-one
invariant-loop-one l = has_session (drop l.one-index l.sessions) l.session ≡ has_session l.sessions l.session
