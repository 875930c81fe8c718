-- A reply as a trace keeps it.
use Rattle.std.specs.Prelude.{◌≡◌, ℕ, Bool, true, false, ◌==◌, Option, Some}
use Rattle.tab_model.specs.declared.data.Reply.{Reply}
use Rattle.tab_model.specs.declared.data.Reply.TheVariants as reply
use Rattle.tab_model.specs.declared.logged_reply.Kept.{Kept}
use Rattle.tab_model.specs.declared.logged_reply.Kept.TheVariants as kept
use Rattle.tab_model.specs.Shared.{is_found}

-- the reply itself
abbrev pub logged_in : Kept → Reply
logged_in kept.Done = reply.Done
logged_in (kept.Tid n) = reply.Tid n
logged_in kept.AtomicOk = reply.AtomicOk
logged_in (kept.Found rows) = reply.Found rows
logged_in (kept.Other r) = r.value

-- the reply takes no memory in a trace
abbrev pub is_short : Reply → Bool
is_short reply.Done = true
is_short (reply.Tid n) = true
is_short reply.AtomicOk = true
is_short r = false

-- each reply is kept in one way alone
abbrev pub IsKept : Kept → Type 0
IsKept kept.Done = Unit {0}
IsKept (kept.Tid n) = Unit {0}
IsKept kept.AtomicOk = Unit {0}
IsKept (kept.Found rows) = Unit {0}
IsKept (kept.Other r) = (is_short r.value ≡ false) × (is_found r.value ≡ false)

-- the reply is there, and is that of a child's begin with this age
abbrev pub is_tid : ℕ → Option Reply → Bool
is_tid age (Some (reply.Tid n)) = age == n
is_tid age r = false

-- the reply is there, and is {atomic, ok}
abbrev pub is_atomic_ok : Option Reply → Bool
is_atomic_ok (Some reply.AtomicOk) = true
is_atomic_ok r = false
