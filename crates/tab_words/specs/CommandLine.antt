-- The command line: its commands and their options (this project's own), as the parser holds them.
use Rattle.std.specs.Prelude.{ℕ, List, [], ◌∷◌, Bool, Some, true, codes, pos}
use Rattle.clap.specs.Words.{App, Rule, Text, new_app, new_rule, with_rule, with_subcommand}
use Rattle.clap.specs.declared.builder.command.Command.{Command}
use Rattle.clap.specs.declared.builder.command.Command.TheViews.{out-Command}
use Rattle.clap.specs.declared.builder.action.ArgAction.TheVariants.{Set, SetTrue}
use Rattle.clap.specs.declared.builder.value_parser.ValueParser.TheVariants.{Signed}

-- an option with a number in this range
abbrev pub number_rule : Text → ℕ → ℕ → Rule
number_rule name least most = record (new_rule name) { long = Some name; action = Some Set; value_names = 1; parser = Some (Signed (pos least) (pos most)) }

-- an option with any text
abbrev pub text_rule : Text → Rule
text_rule name = record (new_rule name) { long = Some name; action = Some Set; value_names = 1 }

-- an option that is given or not
abbrev pub flag_rule : Text → Rule
flag_rule name = record (new_rule name) { long = Some name; action = Some SetTrue }

-- how many items an outbox holds
abbrev pub outbox_rule : Rule
outbox_rule = number_rule (codes "outbox") 1 65536

-- a command with these options
abbrev pub with_rules : App → List Rule → App
with_rules a [] = a
with_rules a (r ∷ rules) = with_rules (with_rule a r) rules

-- `replay` with its option
abbrev pub replay_line : App
replay_line = with_rules (new_app (codes "replay")) (outbox_rule ∷ [])

-- `serve` with its options; `serve_fault` of Asked says which of them have to be given
abbrev pub serve_line : App
serve_line = with_rules (new_app (codes "serve"))
    (number_rule (codes "port") 0 65535 ∷ text_rule (codes "socket") ∷ number_rule (codes "connections") 1 64 ∷ outbox_rule ∷ number_rule (codes "journal") 16 65536
    ∷ number_rule (codes "journal-bytes") 1048576 4294967295 ∷ flag_rule (codes "forever") ∷ flag_rule (codes "batches") ∷ number_rule (codes "idle") 1 86400 ∷ flag_rule (codes "log") ∷ number_rule (codes "metrics") 0 65535 ∷ number_rule (codes "slow") 1 86400 ∷ flag_rule (codes "abort-waits") ∷ flag_rule (codes "drain")
    ∷ number_rule (codes "transaction-limit") 1 86400 ∷ number_rule (codes "idle-sessions") 1 86400 ∷ number_rule (codes "outbox-bytes") 1 4294967295 ∷ [])

-- the program with its version, which wants a command
abbrev pub bare_line : App
bare_line = record { top = record (new_app (codes "tabd")).top { has_version = true; subcommand_required = true }; subs = [] }

-- the whole command line
abbrev pub command_line : App
command_line = with_subcommand (with_subcommand bare_line replay_line.top) serve_line.top

-- an argument of the command, or of one of its own, is global
abbrev pub has_globals : Command → Bool
has_globals c = (out-Command c).has_globals
