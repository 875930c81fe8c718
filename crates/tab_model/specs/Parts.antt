-- The parts of a one-shot as commands: an inner transaction begins and commits (this project's own form).
use Rattle.tab_model.specs.declared.data.Command.{Command}
use Rattle.tab_model.specs.declared.data.Command.TheVariants as command
use Rattle.tab_model.specs.declared.data.Part.{Part}
use Rattle.tab_model.specs.declared.data.Part.TheVariants as part

-- the command of a part
abbrev pub command_of : Part → Command
command_of (part.Do o) = command.Do o
command_of (part.Abort r) = command.Abort r
command_of part.Open = command.Begin
command_of part.Close = command.Commit
