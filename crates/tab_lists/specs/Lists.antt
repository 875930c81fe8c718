-- Which terms a list has that is shared, and which are left of a walk over it.
use Rattle.std.specs.Prelude.{◌≡◌, List, [], ◌∷◌, ◌++◌, Option, Some, None}
use Rattle.std.specs.List.{filter}
use Rattle.std.specs.Option.{option_copied}
use denote.Ref.{Bor}
use Rattle.tab_term.specs.declared.term.Term.{Term}
use Rattle.tab_term.specs.Data.{PlainTerm, PlainTerms, plain_terms}
use Rattle.tab_term.specs.View.{term}
use Rattle.tab_lists.specs.declared.condition.Condition.{Condition}
use Rattle.tab_lists.specs.declared.iter.RecordWalk.{RecordWalk}
use Rattle.tab_lists.specs.declared.iter.Walk.{Walk}
use Rattle.tab_lists.specs.declared.iter.Walk.TheVariants as walk
use Rattle.tab_lists.specs.declared.query.Query.{Query}
use Rattle.tab_lists.specs.declared.shared_terms.Form.{Form}
use Rattle.tab_lists.specs.declared.shared_terms.Form.TheVariants as form
use Rattle.tab_lists.specs.declared.shared_terms.Owned.{Owned}
use Rattle.tab_lists.specs.declared.shared_terms.Owned.TheVariants as owned
use Rattle.tab_lists.specs.ByKey.{Entry, joined, filled_keys}
use Rattle.tab_lists.specs.Conditions.{meets, chosen}
use Rattle.tab_lists.specs.Snapshots.{entries_of, records_in}

-- the records that a query finds
abbrev pub found_by : Query → List PlainTerm
found_by q = filter (meets q.condition) (records_in q.scope)

-- the terms of a list, in whatever form it holds them
abbrev pub listed : Form → PlainTerms
listed (form.Own ts) = ts
listed (form.Entry e) = e.1
listed (form.Keys s) = plain_terms (filled_keys (entries_of s))
listed (form.Records s) = plain_terms (joined (entries_of s))
listed (form.Found q) = plain_terms (found_by q.value)

-- the terms of a list, be it held by one or by several
abbrev pub owned_list : Owned → PlainTerms
owned_list (owned.Alone f) = listed f
owned_list (owned.Shared f) = listed f.value

-- of these entries a walk gives the first, and has the others left; at the end it gives none
abbrev pub Gives : List Entry → Option (Bor Term × Bor PlainTerms) → List Entry → Type 0
Gives es None fs = (es ≡ []) × (fs ≡ [])
Gives es (Some e) fs = es ≡ (e.0.now, e.1.now) ∷ fs

-- of these entries a walk gives the first key at which records stand; at the end it gives none
abbrev pub GivesFilled : List Entry → Option (Bor Term) → List Entry → Type 0
GivesFilled es None fs = (filled_keys es ≡ []) × (filled_keys fs ≡ [])
GivesFilled es (Some k) fs = filled_keys es ≡ term k.now ∷ filled_keys fs

-- what is left of several records of one key
abbrev pub near_of : Option (List PlainTerm) → List PlainTerm
near_of None = []
near_of (Some ts) = ts

-- the records behind those that a walk came to last
abbrev pub rest_of : Option (List Entry) → List PlainTerm
rest_of None = []
rest_of (Some es) = joined es

-- of these entries' records a walk gives the first that is chosen, and has left what is near and behind it; at the end it gives none
abbrev pub GivesChosen : Option Condition → List Entry → Option (Bor Term) → Option (List PlainTerm) → List Entry → Type 0
GivesChosen c es None near fs = (chosen c (joined es) ≡ []) × ((near_of near ≡ []) × (joined fs ≡ []))
GivesChosen c es (Some first) near fs = chosen c (joined es) ≡ term first.now ∷ chosen c (near_of near ++ joined fs)

-- the records that a walk gives yet
abbrev pub records_left : RecordWalk → List PlainTerm
records_left w = chosen (option_copied w.condition) (near_of w.near ++ rest_of w.rest)

-- the terms that a walk gives yet
abbrev pub left_to : Walk → List PlainTerm
left_to (walk.Keys es) = filled_keys es
left_to (walk.Records w) = records_left w
