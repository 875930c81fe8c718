-- What a command is answered.
use Rattle.std.specs.Prelude.{◌≡◌, ℕ, List}
use Rattle.tab_model.specs.declared.data.Command.{Command}
use Rattle.tab_model.specs.declared.data.Reply.{Reply}
use Rattle.tab_model.specs.declared.ask.Ask.TheVariants.{Do as DoCommand}
use Rattle.tab_model.specs.Outcome.{outcome}
use Rattle.tab_model.specs.Run.{Allowed}
use Rattle.tab_model.specs.State.{State}

-- the reply and the state after it are the definitions', whose outcome depends on which posts refused and nothing else
pub record IsAnswered (old : State) (session : ℕ) (command : Command) (told : Reply) (new : State) : Type 0 where
  pub over : List ℕ
  pub allowed : Allowed old over session (DoCommand command)
  pub reply : (outcome old over session (DoCommand command)).reply ≡ told
  pub state : (outcome old over session (DoCommand command)).state ≡ new
