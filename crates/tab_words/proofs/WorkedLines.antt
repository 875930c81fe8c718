-- Worked command lines, by computing.
use Rattle.std.proofs.Common.{◌≡◌, List, [], ◌∷◌, ◌++◌, Option, Some, None, true, refl, codes}
use Rattle.std.specs.Prelude.{option_map}
use Rattle.clap.proofs.OnLiterals.{clap_on_literals}
use Rattle.clap.specs.declared.error.kind.ErrorKind.TheVariants.{ArgumentConflict, DisplayHelp, MissingRequiredArgument, MissingSubcommand, UnknownArgument, ValueValidation}
use Rattle.clap.specs.Kinds.{or_else}
use Rattle.clap.specs.Words.{Kinds, Text, fault_of, first_of, is_simple, is_simple_and_free, one_of, subcommand_of}
use Rattle.tab_words.specs.Asked.{serve_fault}
use Rattle.tab_words.specs.CommandLine.{command_line}

pub line_is_simple : is_simple command_line ≡ true
line_is_simple = refl

pub line_is_free : is_simple_and_free command_line ≡ true
line_is_free = refl

-- what an option has, where the words name a command
abbrev option_in : Text → List Text → Option (Option Text)
option_in name words = option_map (λ c. one_of name c.1) (subcommand_of command_line (codes "tabd" ∷ words))

abbrev serving : List Text
serving = codes "serve" ∷ codes "--port" ∷ codes "0" ∷ codes "--connections" ∷ codes "2" ∷ []

pub port_given : option_in (codes "port") serving ≡ Some (Some (codes "0"))
unfolding clap_on_literals
port_given = refl

-- what was written of an option
abbrev written_in : Text → List Text → Option (Option Text)
written_in name words = option_map (λ c. first_of name c.1) (subcommand_of command_line (codes "tabd" ∷ words))

abbrev at_a_socket : List Text
at_a_socket = codes "serve" ∷ codes "--socket" ∷ codes "/run/tabd" ∷ codes "--connections" ∷ codes "2" ∷ []

pub port_written : written_in (codes "port") serving ≡ Some (Some (codes "0"))
unfolding clap_on_literals
port_written = refl

pub socket_left_out : written_in (codes "socket") serving ≡ Some None
unfolding clap_on_literals
socket_left_out = refl

pub socket_written : written_in (codes "socket") at_a_socket ≡ Some (Some (codes "/run/tabd"))
unfolding clap_on_literals
socket_written = refl

pub port_left_out : written_in (codes "port") at_a_socket ≡ Some None
unfolding clap_on_literals
port_left_out = refl

pub journal_left_out : option_in (codes "journal") serving ≡ Some None
unfolding clap_on_literals
journal_left_out = refl

pub outbox_left_out : option_in (codes "outbox") serving ≡ Some None
unfolding clap_on_literals
outbox_left_out = refl

pub idle_left_out : option_in (codes "idle") serving ≡ Some None
unfolding clap_on_literals
idle_left_out = refl

pub forever_left_out : option_in (codes "forever") serving ≡ Some (Some (codes "false"))
unfolding clap_on_literals
forever_left_out = refl

pub journal_given : option_in (codes "journal") (serving ++ codes "--forever" ∷ codes "--journal=100" ∷ []) ≡ Some (Some (codes "100"))
unfolding clap_on_literals
journal_given = refl

pub forever_given : option_in (codes "forever") (serving ++ codes "--forever" ∷ codes "--journal=100" ∷ []) ≡ Some (Some (codes "true"))
unfolding clap_on_literals
forever_given = refl

pub replay_left_out : option_in (codes "outbox") (codes "replay" ∷ []) ≡ Some None
unfolding clap_on_literals
replay_left_out = refl

pub replay_given : option_in (codes "outbox") (codes "replay" ∷ codes "--outbox" ∷ codes "8" ∷ []) ≡ Some (Some (codes "8"))
unfolding clap_on_literals
replay_given = refl

-- words that are refused
abbrev faults : List Text → Kinds
faults words = or_else (fault_of command_line (codes "tabd" ∷ words)) (serve_fault (subcommand_of command_line (codes "tabd" ∷ words)))

pub none_wrong : faults serving ≡ []
unfolding clap_on_literals
none_wrong = refl

pub short_journal : faults (serving ++ codes "--journal" ∷ codes "15" ∷ []) ≡ ValueValidation ∷ []
unfolding clap_on_literals
short_journal = refl

pub long_journal : faults (serving ++ codes "--journal" ∷ codes "65537" ∷ []) ≡ ValueValidation ∷ []
unfolding clap_on_literals
long_journal = refl

pub few_bytes : faults (serving ++ codes "--journal-bytes" ∷ codes "1048575" ∷ []) ≡ ValueValidation ∷ []
unfolding clap_on_literals
few_bytes = refl

pub many_bytes : faults (serving ++ codes "--journal-bytes" ∷ codes "4294967296" ∷ []) ≡ ValueValidation ∷ []
unfolding clap_on_literals
many_bytes = refl

pub most_bytes : faults (serving ++ codes "--journal-bytes" ∷ codes "4294967295" ∷ []) ≡ []
unfolding clap_on_literals
most_bytes = refl

pub no_outbox_bytes : faults (serving ++ codes "--outbox-bytes" ∷ codes "0" ∷ []) ≡ ValueValidation ∷ []
unfolding clap_on_literals
no_outbox_bytes = refl

pub few_outbox_bytes : faults (serving ++ codes "--outbox-bytes" ∷ codes "1" ∷ []) ≡ []
unfolding clap_on_literals
few_outbox_bytes = refl

pub outbox_bytes_left_out : option_in (codes "outbox-bytes") serving ≡ Some None
unfolding clap_on_literals
outbox_bytes_left_out = refl

pub replay_has_no_bytes : faults (codes "replay" ∷ codes "--outbox-bytes" ∷ codes "8" ∷ []) ≡ UnknownArgument ∷ []
unfolding clap_on_literals
replay_has_no_bytes = refl

pub no_outbox : faults (codes "replay" ∷ codes "--outbox" ∷ codes "0" ∷ []) ≡ ValueValidation ∷ []
unfolding clap_on_literals
no_outbox = refl

pub nothing_given : faults (codes "serve" ∷ []) ≡ MissingRequiredArgument ∷ []
unfolding clap_on_literals
nothing_given = refl

pub no_port : faults (codes "serve" ∷ codes "--connections" ∷ codes "2" ∷ []) ≡ MissingRequiredArgument ∷ []
unfolding clap_on_literals
no_port = refl

pub socket_alone : faults at_a_socket ≡ []
unfolding clap_on_literals
socket_alone = refl

pub port_and_socket : faults (serving ++ codes "--socket" ∷ codes "/run/tabd" ∷ []) ≡ ArgumentConflict ∷ []
unfolding clap_on_literals
port_and_socket = refl

pub empty_socket : faults (codes "serve" ∷ codes "--socket=" ∷ codes "--connections" ∷ codes "2" ∷ []) ≡ ValueValidation ∷ []
unfolding clap_on_literals
empty_socket = refl

pub no_connections : faults (codes "serve" ∷ codes "--socket" ∷ codes "/run/tabd" ∷ []) ≡ MissingRequiredArgument ∷ []
unfolding clap_on_literals
no_connections = refl

pub no_command : faults [] ≡ MissingSubcommand ∷ []
unfolding clap_on_literals
no_command = refl

pub help : faults (codes "--help" ∷ []) ≡ DisplayHelp ∷ []
unfolding clap_on_literals
help = refl

pub other_option : faults (codes "replay" ∷ codes "--journal" ∷ codes "16" ∷ []) ≡ UnknownArgument ∷ []
unfolding clap_on_literals
other_option = refl
