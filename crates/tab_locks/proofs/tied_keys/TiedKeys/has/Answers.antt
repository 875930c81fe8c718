use Rattle.std.proofs.Common.{ap, ◌∙◌}
use Rattle.std.specs.List.{list_any}
use Rattle.tab_term.specs.View.{term}
use Rattle.tab_term.specs.Same.{same}
use Rattle.tab_locks.proofs.KeySpots.{has_at}
use Rattle.tab_locks.proofs.tied_keys.TiedKeys.has.Goals as goal

pub returns : goal.returns
returns c = c.contains_key.ensures ∙ has_at c.args.key.now c.self.inside.holders.entries c.self.invariant.ordered c.self.invariant.filled ∙ ap (list_any (λ s. same (term c.args.key.now) s.0)) c.self.view_is
