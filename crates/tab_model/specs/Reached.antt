-- What every reached state has besides: of its waits, and of its ages (this project's own).
use Rattle.std.specs.Prelude.{◌<◌, List, [], ◌∷◌, Option, Some, None}
use Rattle.tab_model.specs.Ages.{Rises}
use Rattle.tab_model.specs.State.{Transaction, Session, State, transaction_at, ages_of, OwnedBy}

-- ages rise along every wait, and each request is of its session's open transaction
pub record IsRising (σ : State) : Type 0 where
  pub rises : Rises (ages_of σ)
  pub owners : OwnedBy (transaction_at σ) σ.queue

-- ages are from 1 on
abbrev pub IsAged : Option Transaction → Type 0
IsAged None = Unit {0}
IsAged (Some transaction) = 0 < transaction.age

-- the ages of all sessions' open transactions are from 1 on
abbrev pub AreAged : List Session → Type 0
AreAged [] = Unit {0}
AreAged (s ∷ sessions) = IsAged s.transaction × AreAged sessions
