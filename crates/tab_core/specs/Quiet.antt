-- Commands that put nothing into posts.
use Rattle.std.specs.Prelude.{Bool, true, false}
use Rattle.tab_model.specs.declared.data.Command.{Command}
use Rattle.tab_model.specs.declared.data.Command.TheVariants as command

-- the command is no commit, no schema command, and neither subscribe nor unsubscribe
abbrev pub is_quiet : Command → Bool
is_quiet command.Commit = false
is_quiet (command.Schema c) = false
is_quiet (command.Subscribe t l dump) = false
is_quiet (command.Unsubscribe t l) = false
is_quiet c = true
