use Rattle.std.proofs.Common.{ap, ◌∙◌, true}
use Rattle.std.specs.List.{list_any}
use Rattle.tab_locks.proofs.FirstLocks.{some_first}
use Rattle.tab_locks.proofs.first_locks.FirstLocks.is_occupied.Goals as goal

pub returns : goal.returns
returns c = c.is_occupied.ensures ∙ some_first c.self.inside.locks ∙ ap (list_any (λ s. true)) c.self.view_is
