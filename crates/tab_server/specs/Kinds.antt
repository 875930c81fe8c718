-- The kinds of sockets (this project's own).
use Rattle.tab_server.specs.declared.listener.Listener.{Listener}
use Rattle.tab_server.specs.declared.listener.Listener.TheVariants as listener
use Rattle.tab_server.specs.declared.listener.Family.{Family}
use Rattle.tab_server.specs.declared.listener.Family.TheVariants as family

-- the kind of a listener's socket, and of those that it accepts
abbrev pub family_of : Listener → Family
family_of (listener.Tcp socket) = family.Tcp
family_of (listener.Unix socket) = family.Unix
