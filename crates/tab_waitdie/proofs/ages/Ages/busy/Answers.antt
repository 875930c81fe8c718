use Rattle.std.proofs.Common.{sym, ap, ◌∙◌, ◌||◌}
use Rattle.std.proofs.lemmas.List.Folds.{list_any-append}
use Rattle.std.specs.List.{list_any}
use Rattle.tab_model.specs.Ages.{all_of}
use Rattle.tab_model.specs.State.{is_in}
use Rattle.tab_waitdie.specs.Queue.{owned, queued}
use Rattle.tab_waitdie.proofs.Deciding.{any_queued}
use Rattle.tab_waitdie.proofs.ages.Ages.busy.Goals as goal

pub returns-else-is_locked : goal.returns-else-is_locked
returns-else-is_locked c =
    let p = is_in c.args.table.now in
    let items = c.self.inside.queue.items in
    let waits = c.is_awaited.ensures ∙ ap (list_any (λ w. p (owned w))) c.deref.ensures.value ∙ sym (any_queued p items) in
    (λ i. (sym c.if-is_locked.false ∙ c.is_locked.ensures) i || waits i) ∙ sym (list_any-append p c.self.inside.locks (queued items)) ∙ ap (λ g. list_any p (all_of g)) c.self.view_is
