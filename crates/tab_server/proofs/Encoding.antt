-- Events with the same parts.
use Rattle.std.proofs.Common.{◌≡◌, ap, ◌∙◌, sym, None}
use Rattle.std.specs.Prelude.{codes}
use Rattle.tab_term.specs.Data.{atom, pair}
use Rattle.tab_term.specs.View.{term}
use Rattle.tab_lists.specs.EventTerms.{tag_word, told, event_term}
use Rattle.tab_lists.specs.declared.events.EventTerm.{EventTerm}

pub same_events : (e d : EventTerm) → e.age ≡ d.age → e.tag ≡ d.tag → e.detail ≡ None → d.detail ≡ None → term e.what ≡ term d.what → event_term e ≡ event_term d
same_events e d age tag none none' what =
    ap (pair (atom (codes "mnesia_table_event")))
    (ap (λ x. told x (tag_word e.tag) (term e.what) e.age) (none ∙ sym none')
    ∙ ap (λ x. told d.detail (tag_word x) (term e.what) e.age) tag
    ∙ ap (λ x. told d.detail (tag_word d.tag) x e.age) what
    ∙ ap (told d.detail (tag_word d.tag) (term d.what)) age)
