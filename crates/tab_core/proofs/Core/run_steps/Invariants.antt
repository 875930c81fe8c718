use Rattle.std.proofs.Common.{◌≡◌, ◌+◌, ◌≤◌, length, vec_len, vec_capacity}
use Rattle.std.specs.Vec.Iter.{into_iter_items, into_iter_len}
use Rattle.tab_core.proofs.RunsLemmas.{IsRunning}
use Rattle.tab_core.proofs.Core.run_steps.Given as goal

-- what a run of the rest gives is a run of all
abbrev pub invariant-loop-session : goal.invariant-loop-session
invariant-loop-session g l = IsRunning g.P.Post.outbox l.fn.self l.self l.fn.steps.items (into_iter_items l.session-iterator) l.replies.items
    × (vec_len l.replies + length (into_iter_items l.session-iterator) ≤ vec_capacity l.replies)
    × (into_iter_len l.session-iterator ≡ length (into_iter_items l.session-iterator))
