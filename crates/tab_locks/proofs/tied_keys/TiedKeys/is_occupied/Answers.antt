use Rattle.std.proofs.Common.{ap, ◌∙◌, true}
use Rattle.std.specs.List.{list_any}
use Rattle.tab_locks.proofs.Filled.{any_value}
use Rattle.tab_locks.proofs.KeySpots.{any_held}
use Rattle.tab_locks.proofs.tied_keys.TiedKeys.is_occupied.Goals as goal

pub returns : goal.returns
returns c =
    let es = c.self.inside.holders.entries in
    any_value c.is_empty.result es c.is_empty.ensures c.self.invariant.filled ∙ any_held (λ h. true) es ∙ ap (list_any (λ s. true)) c.self.view_is
