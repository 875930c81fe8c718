-- The terms of events, one after another.
use Rattle.std.proofs.Common.{◌≡◌, ℕ, suc, List, [], ◌∷◌, ◌++◌, length, refl, ap, false, Option, Some, None}
use Rattle.std.specs.Prelude.{codes}
use Rattle.tab_term.specs.Canon.{all_bytes}
use Rattle.tab_term.specs.Data.{PlainTerm, atom, pair, one_more, count, plain_terms, terms_list}
use Rattle.tab_term.specs.Memory.{memory, event_memory}
use Rattle.tab_term.specs.View.{term}
use Rattle.tab_lists.specs.declared.events.Detail.{Detail}
use Rattle.tab_lists.specs.declared.events.EventTerm.{EventTerm}
use Rattle.tab_lists.specs.EventTerms.{tag_word, told, event_term, event_terms}

-- one more event is one more term
pub events_push : (es : List EventTerm) (e : EventTerm) → event_terms (es ++ e ∷ []) ≡ plain_terms (terms_list (event_terms es) ++ event_term e ∷ [])
events_push [] e = refl
events_push (x ∷ xs) e = ap (one_more (event_term x)) (events_push xs e)

pub count_events : (es : List EventTerm) → count (event_terms es) ≡ length es
count_events [] = refl
count_events (e ∷ es) = ap suc (count_events es)

-- no event is an integer, so that events are never written as a string
pub no_bytes : (e : EventTerm) (es : List EventTerm) → all_bytes (event_terms (e ∷ es)) ≡ false
no_bytes e es = refl

body_bytes : (d : Option Detail) (word : List ℕ) (what : PlainTerm) (age : ℕ) (w : PlainTerm) → event_memory (pair w (told d word what age)) ≡ memory what
body_bytes None word what age w = refl
body_bytes (Some d) word what age w = refl

-- the bytes of an event are those of its record
pub event_bytes : (e : EventTerm) → event_memory (event_term e) ≡ memory (term e.what)
event_bytes e = body_bytes e.detail (tag_word e.tag) (term e.what) e.age (atom (codes "mnesia_table_event"))
