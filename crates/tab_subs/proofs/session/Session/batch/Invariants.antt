use Rattle.std.proofs.Common.{◌≡◌, ◌++◌, drop}
use Rattle.std.specs.Prelude.{filter_map}
use Rattle.tab_term.specs.Data.{terms_list}
use Rattle.tab_model.specs.Slices.{shape_at}
use Rattle.tab_model.specs.State.{level_in}
use Rattle.tab_subs.proofs.session.Session.batch.Given as goal

abbrev pub invariant-loop-event : goal.invariant-loop-event
invariant-loop-event g l = record {
  same : l.event-items ≡ l.fn.events.items;
  told : terms_list l.told ++ filter_map (λ e. shape_at (level_in l.self.watching e.tab) e) (drop l.event-index l.fn.events.items) ≡ filter_map (λ e. shape_at (level_in l.self.watching e.tab) e) l.fn.events.items;
}
