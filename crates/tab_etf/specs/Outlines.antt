-- Terms that are given by their parts: an atom's text, a number, a term, the elements of a list, an event; a tuple of two to four of
-- these; and pairs around it.
use Rattle.std.specs.Prelude.{◌≡◌, ℕ, pos, ◌<◌, ◌≤◌, ◌-◌, ◌^◌, min, List, [], ◌∷◌, Option, Some, None, length}
use Rattle.tab_term.specs.Data.{PlainTerm, int, atom, tuple, list, none, one_more, count, pair, triple}
use Rattle.tab_term.specs.Canon.{canon}
use Rattle.tab_term.specs.View.{term}
use Rattle.tab_lists.specs.EventTerms.{event_term}
use Rattle.tab_etf.specs.Measures.{IsMeasure}
use Rattle.tab_etf.specs.declared.outline.Leaf.{Leaf}
use Rattle.tab_etf.specs.declared.outline.Leaf.TheVariants as leaf
use Rattle.tab_etf.specs.declared.outline.Body.{Body}
use Rattle.tab_etf.specs.declared.outline.Body.TheVariants as body
use Rattle.tab_etf.specs.declared.outline.Outline.{Outline}

-- the term of one part: an atom of this text, an integer, a term that is there, a list of these terms, or an event
abbrev pub leaf_term : Leaf → PlainTerm
leaf_term (leaf.Word text) = atom text.now
leaf_term (leaf.Number n) = int (pos n)
leaf_term (leaf.Held t) = term t.now
leaf_term (leaf.List ts) = list ts.now
leaf_term (leaf.SharedList ts m) = list ts.now
leaf_term (leaf.Answers ts n) = list ts.now
leaf_term (leaf.Event e n) = event_term e.now
leaf_term (leaf.Events es n) = list es.now

-- the one part by itself, or the tuple of two to four parts
abbrev pub body_term : Body → PlainTerm
body_term (body.One a) = leaf_term a
body_term (body.Two a b) = pair (leaf_term a) (leaf_term b)
body_term (body.Three a b c) = triple (leaf_term a) (leaf_term b) (leaf_term c)
body_term (body.Four a b c d) = tuple (one_more (leaf_term a) (one_more (leaf_term b) (one_more (leaf_term c) (one_more (leaf_term d) none))))

-- {Leaf, Term}, or the term alone
abbrev pub under : Option Leaf → PlainTerm → PlainTerm
under None t = t
under (Some l) t = pair (leaf_term l) t

-- the body, in a pair behind the second part where there is one, and that in a pair behind the first
abbrev pub outline_term : Outline → PlainTerm
outline_term o = under o.first (under o.second (body_term o.body))

-- what stands before the rest of a pair: a tuple's tag, its arity, and the first part
abbrev pub head_canon : Option Leaf → List ℕ
head_canon None = []
head_canon (Some l) = 104 ∷ 2 ∷ canon (leaf_term l)

-- the condition holds of the part, where there is one
abbrev pub OfHead : (Leaf → Type 0) → Option Leaf → Type 0
OfHead P None = Unit {0}
OfHead P (Some l) = P l

-- the condition holds of each of the parts
abbrev pub OfBody : (Leaf → Type 0) → Body → Type 0
OfBody P (body.One a) = P a
OfBody P (body.Two a b) = P a × P b
OfBody P (body.Three a b c) = P a × P b × P c
OfBody P (body.Four a b c d) = P a × P b × P c × P d

-- the condition holds of each part of the outline
abbrev pub OfOutline : (Leaf → Type 0) → Outline → Type 0
OfOutline P o = OfHead P o.first × OfHead P o.second × OfBody P o.body

-- an atom's text has a length of two bytes, a list that is shared stands with its measure, and answers and events with their
-- length
abbrev pub IsShort : Leaf → Type 0
IsShort (leaf.Word text) = length text.now < 2 ^ 16
IsShort (leaf.SharedList ts m) = IsMeasure m ts.now
IsShort (leaf.Answers ts n) = n ≡ min (length (canon (list ts.now))) (2 ^ 64 - 1)
IsShort (leaf.Event e n) = n ≡ min (length (canon (event_term e.now))) (2 ^ 64 - 1)
IsShort (leaf.Events es n) = n ≡ min (length (canon (list es.now))) (2 ^ 64 - 1)
IsShort l = Unit {0}

-- each atom of the outline has a text of less than 65,536 bytes, and each shared list and all answers and events their
-- measure
abbrev pub IsShortOutline : Outline → Type 0
IsShortOutline o = OfOutline IsShort o

-- an atom's text has a length of two bytes, a list that is shared its measure and a count of eight, and answers and events
-- fit a payload
abbrev pub IsWritable : Leaf → Type 0
IsWritable (leaf.Word text) = length text.now < 2 ^ 16
IsWritable (leaf.SharedList ts m) = IsMeasure m ts.now × (count ts.now < 2 ^ 64)
IsWritable (leaf.Answers ts n) = length (canon (list ts.now)) ≤ 4294967295
IsWritable (leaf.Event e n) = length (canon (event_term e.now)) ≤ 4294967295
IsWritable (leaf.Events es n) = length (canon (list es.now)) ≤ 4294967295
IsWritable l = Unit {0}
