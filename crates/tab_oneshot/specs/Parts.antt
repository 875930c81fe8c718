-- What the driver's functions give, in the words of an attempt (this project's own).
use Rattle.std.specs.Prelude.{◌≡◌, List, [], ◌∷◌, Option, Some, None}
use Rattle.tab_term.specs.Data.{PlainTerms}
use Rattle.tab_model.specs.declared.data.Reply.{Reply}
use Rattle.tab_oneshot.specs.declared.answer.OneShotAnswer.{OneShotAnswer}
use Rattle.tab_oneshot.specs.declared.turn.Turn as code
use Rattle.tab_oneshot.specs.declared.turn.Turn.TheVariants as turn
use Rattle.tab_oneshot.specs.Attempts.{Turn, GoesOn, IsOver, Restarts}

-- the reply of a wait, if the surroundings could wait
abbrev pub awaited : Option OneShotAnswer → Option Reply
awaited None = None
awaited (Some x) = Some x.reply

-- what follows an answer, as the program says it, with these open levels
abbrev pub turn_of : code.Turn → List PlainTerms → Turn
turn_of turn.GoOn levels = GoesOn 0 levels
turn_of turn.Skip levels = GoesOn 1 levels
turn_of (turn.Over r) levels = IsOver r
turn_of turn.Restart levels = Restarts

-- the innermost level is no more, but level 1 stays
abbrev pub Leaves : List PlainTerms → Option PlainTerms → List PlainTerms → Type 0
Leaves old None new = (ts : PlainTerms) × (old ≡ ts ∷ [])
Leaves old (Some ts) new = (us : PlainTerms) × (outer : List PlainTerms) × (old ≡ ts ∷ us ∷ outer) × (new ≡ us ∷ outer)
