use Rattle.std.proofs.Common.{sym, ◌∙◌}
use Rattle.std.specs.Prelude.{if◌then◌else◌}
use Rattle.std.specs.List.{list_any}
use Rattle.tab_model.specs.Ages.{Owned, opposes, blocks}
use Rattle.tab_locks.specs.declared.lock_table.Conflict.TheVariants.{Free, WithYounger, WithOlder}
use Rattle.tab_locks.specs.Plain.{lock_of}
use Rattle.tab_waitdie.specs.Queue.{queued}
use Rattle.tab_waitdie.proofs.Deciding.{any_queued}
use Rattle.tab_waitdie.proofs.waiting.conflicts_in.Goals as goal

pub returns-then-not-any_opposing : goal.returns-then-not-any_opposing
returns-then-not-any_opposing c =
    let r : Owned = (c.args.age, lock_of c.args.lock.now) in
    let ws = c.args.queue.now in
    let none = sym c.if-not-any_opposing.true ∙ c.any_opposing.ensures ∙ sym (any_queued (opposes r) ws) in
    λ i. if none i then (if list_any (blocks r) (queued ws) then WithOlder else WithYounger) else Free

pub returns : goal.returns
returns c =
    let r : Owned = (c.args.age, lock_of c.args.lock.now) in
    let ws = c.args.queue.now in
    let some = sym c.if-not-any_opposing.false ∙ c.any_opposing.ensures ∙ sym (any_queued (opposes r) ws) in
    let older = c.any_blocking.ensures ∙ sym (any_queued (blocks r) ws) in
    c.with.ensures ∙ (λ i. if some i then (if older i then WithOlder else WithYounger) else Free)
