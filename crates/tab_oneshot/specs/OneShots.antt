-- A whole one-shot (this project's own rules).
use Rattle.std.specs.Prelude.{◌≡◌, ℕ, zero, suc, List, [], ◌∷◌, ◌++◌, Bool, true, false, Option, Some, None, ◌⊎◌}
use Rattle.tab_term.specs.Data.{none}
use Rattle.tab_model.specs.declared.data.Part.{Part}
use Rattle.tab_model.specs.declared.data.Command.{Command}
use Rattle.tab_model.specs.declared.data.Command.TheVariants as command
use Rattle.tab_model.specs.declared.data.Reply.{Reply}
use Rattle.tab_model.specs.declared.data.Reply.TheVariants as reply
use Rattle.tab_oneshot.specs.declared.answer.Sort.{Sort}
use Rattle.tab_oneshot.specs.declared.answer.Sort.TheVariants as sort
use Rattle.tab_oneshot.specs.Calls.{Call, Again}
use Rattle.tab_oneshot.specs.Attempts.{Ends, Asks, IsAttempt}

-- the command is {transaction, Ops, Retries}
abbrev pub is_one_shot : Command → Bool
is_one_shot (command.OneShot parts retries) = true
is_one_shot c = false

-- the parts of the command, if it is a one-shot, are those of this kind
abbrev pub IsFrom : (List Part → Type 0) → Command → Type 0
IsFrom Gives (command.OneShot parts retries) = Gives parts
IsFrom Gives c = Unit {0}

-- what follows an attempt: its reply is the last, or it was restarted
abbrev pub Follows : (List Call → Reply → Type 0) → Option Reply → List Call → Reply → Type 0
Follows Anew (Some r) calls last = (calls ≡ []) × (last ≡ r)
Follows Anew None calls last = Anew calls last

-- an attempt over all parts; or memory for them was refused, and level 1 is ended
abbrev pub IsTried : List Part → List Call → Option Reply → Type 0
IsTried parts calls ending = IsAttempt parts 0 (none ∷ []) calls ending ⊎ ((last : Reply) × Ends 1 reply.NoMemory calls last × (ending ≡ Some last))

-- an attempt, and what follows it
abbrev pub Tries : List Part → (List Call → Reply → Type 0) → List Call → Reply → Type 0
Tries parts Anew calls last =
    (first rest : List Call) × (ending : Option Reply) × (calls ≡ first ++ rest) × IsTried parts first ending × Follows Anew ending rest last

-- at most so many restarts lead to one more attempt; after the next, level 1 is ended, and the reply is {aborted, nomore}
abbrev pub Runs : List Part → ℕ → List Call → Reply → Type 0
Runs parts zero calls last = Tries parts (λ ys r. Ends 1 reply.NoMore ys r) calls last
Runs parts (suc n) calls last = Tries parts (λ ys r. (more : List Call) × (ys ≡ Again ∷ more) × Runs parts n more r) calls last

-- level 1 is open, or the command was refused
abbrev pub Opens : Sort → Reply → List Part → ℕ → List Call → Reply → Type 0
Opens sort.Opened x parts retries calls last = Runs parts retries calls last
Opens s x parts retries calls last = (calls ≡ []) × (last ≡ x)

-- the one-shot was run whole; or memory for it was refused
abbrev pub IsRun : List Part → ℕ → List Call → Reply → Type 0
IsRun parts retries calls last =
    Asks (command.OneShot parts retries) (λ s x rest. Opens s x parts retries rest last) calls ⊎ (calls ≡ []) × (last ≡ reply.NoMemory)

-- the command is a one-shot, whose run made these calls and gave this reply
abbrev pub IsOneShot : Command → List Call → Reply → Type 0
IsOneShot (command.OneShot parts retries) calls last = IsRun parts retries calls last
IsOneShot c calls last = ⊥
