-- Events as terms (Mnesia User's Guide, "Mnesia Event Handling", table events; the activity id {tid, Age} is this project's
-- own).
use Rattle.std.specs.Prelude.{ℕ, List, [], ◌∷◌, Option, Some, None, codes}
use Rattle.tab_term.specs.Data.{PlainTerm, atom, list, PlainTerms, none, one_more, pair, triple}
use Rattle.tab_term.specs.Tuples.{tid, five}
use Rattle.tab_term.specs.View.{term}
use Rattle.tab_lists.specs.declared.events.Tag.{Tag}
use Rattle.tab_lists.specs.declared.events.Tag.TheVariants as tag
use Rattle.tab_lists.specs.declared.events.Detail.{Detail}
use Rattle.tab_lists.specs.declared.events.EventTerm.{EventTerm}

-- the text of a tag
abbrev pub tag_word : Tag → List ℕ
tag_word tag.Write = codes "write"
tag_word tag.Delete = codes "delete"
tag_word tag.DeleteObject = codes "delete_object"

-- {Tag, What, {tid, Age}}, or {Tag, Tab, What, Old, {tid, Age}} of a detailed event
abbrev pub told : Option Detail → List ℕ → PlainTerm → ℕ → PlainTerm
told None word what age = triple (atom word) what (tid age)
told (Some d) word what age = five (atom word) (atom d.table) what (list d.old) (tid age)

-- the second element of an event's term
abbrev pub event_body : EventTerm → PlainTerm
event_body e = told e.detail (tag_word e.tag) (term e.what) e.age

-- the term of an event
abbrev pub event_term : EventTerm → PlainTerm
event_term e = pair (atom (codes "mnesia_table_event")) (event_body e)

-- the terms of these events, in their order
abbrev pub event_terms : List EventTerm → PlainTerms
event_terms [] = none
event_terms (e ∷ es) = one_more (event_term e) (event_terms es)
