-- The updates that stand in the midst of a transaction, read off its moves and replies, with those that each open level goes
-- back to (`survivors` of tab_model's Events, move by move).
use Rattle.std.specs.Prelude.{ℕ, ◌≤◌, List, [], ◌∷◌, if◌then◌else◌, Option, map, take}
use Rattle.tab_model.specs.declared.data.Change.{Change}
use Rattle.tab_model.specs.declared.data.Move.{Move}
use Rattle.tab_model.specs.declared.data.Move.TheVariants.{Do, Open, Close, Undo}
use Rattle.tab_model.specs.declared.data.Reply.{Reply}
use Rattle.tab_model.specs.Operations.{change_of_op}
use Rattle.tab_model.specs.Events.{is_failure, drop_level, top_level, with_change, survivors}

-- the updates that survive until now, and those that each open level goes back to, innermost first
pub record Standing : Type 0 where
  pub now : List Change
  pub saved : List (List Change)

-- a child begins, and goes back to what survives now
abbrev pub opened : Standing → Standing
opened s = record { now = s.now; saved = s.now ∷ s.saved }

-- a child commits, and its updates stay
abbrev pub closed : Standing → Standing
closed s = record { now = s.now; saved = drop_level s.saved }

-- the innermost level is over: what survived at its begin survives, and nothing after level 1
abbrev pub ended : Standing → Standing
ended s = record { now = top_level s.saved; saved = drop_level s.saved }

-- one more update, if there is one
abbrev pub changed : Standing → Option Change → Standing
changed s c = record { now = with_change s.now c; saved = s.saved }

-- after a move with reply r; an operation that failed ends the innermost level
abbrev pub next : Standing → Move → Option Reply → Standing
next s (Do o) r = if is_failure r then ended s else changed s (change_of_op o)
next s Open r = opened s
next s Close r = closed s
next s Undo r = ended s

-- those that stand after all moves
abbrev pub survivors_of : Standing → List Move → List (Option Reply) → List Change
survivors_of s xs rs = survivors s.now s.saved xs rs

-- as the program keeps them: all in one list, and how many stood when each level began
abbrev pub standing : List Change → List ℕ → Standing
standing cs ns = record { now = cs; saved = map (λ n. take n cs) ns }

-- an outer level began with no more updates than an inner one, and that with no more than there are
abbrev pub Falls : ℕ → List ℕ → Type 0
Falls m [] = Unit {0}
Falls m (n ∷ ns) = (n ≤ m) × Falls n ns
