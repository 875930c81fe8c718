use Rattle.std.proofs.Common.{sym, ap, ◌∙◌, ◌++◌, not, take}
use Rattle.std.specs.List.{list_any}
use Rattle.tab_model.specs.Ages.{opposes}
use Rattle.tab_waitdie.specs.Queue.{owned, queued}
use Rattle.tab_waitdie.proofs.Deciding.{any_queued, free_where}
use Rattle.tab_waitdie.proofs.Places.{same_item}
use Rattle.tab_waitdie.proofs.ages.is_free.Goals as goal

pub returns-in-Free : goal.returns-in-Free
returns-in-Free c = λ d.
    let ws = c.args.queue.now in
    let w = c.index-queue-at.result in
    let held = c.args.locks.now in
    let earlier = queued (take c.args.at ws) in
    let item = c.index-queue-at.is ∙ same_item ws c.args.at w d c.requires in
    ap not (c.any_opposing.ensures ∙ sym (any_queued (opposes (owned w)) (take c.args.at ws)))
    ∙ free_where (owned w) held earlier (sym c.in-Free.is ∙ c.conflicts.ensures)
    ∙ ap (λ v. not (list_any (opposes (owned v)) (held ++ earlier))) item
