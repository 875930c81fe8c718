-- The events that a list of them has, in whatever form.
use Rattle.std.specs.Prelude.{List, [], ◌∷◌}
use Rattle.tab_lists.specs.declared.events.EventTerm.{EventTerm}
use Rattle.tab_lists.specs.declared.events.EventsForm.{EventsForm}
use Rattle.tab_lists.specs.declared.events.EventsForm.TheVariants as form

-- one, or those of a vector
abbrev pub events_in : EventsForm → List EventTerm
events_in (form.One e) = e ∷ []
events_in (form.Many es) = es.items
