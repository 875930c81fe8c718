-- A reply that is alone or shared.
use Rattle.std.specs.Prelude.{◌≡◌, Bool, true, false}
use Rattle.tab_model.specs.declared.data.Reply.{Reply}
use Rattle.tab_model.specs.declared.data.Reply.TheVariants as reply
use Rattle.tab_model.specs.declared.shared_reply.Owned.{Owned}
use Rattle.tab_model.specs.declared.shared_reply.Owned.TheVariants.{Own, Shared}

-- the reply itself, be it alone or shared
abbrev pub reply_in : Owned → Reply
reply_in (Own r) = r
reply_in (Shared r) = r.value

-- the reply has a list of records or keys
abbrev pub is_found : Reply → Bool
is_found (reply.Found rows) = true
is_found r = false

-- a reply with a list is alone: its list is shared by itself
abbrev pub IsOwned : Owned → Type 0
IsOwned (Own r) = Unit {0}
IsOwned (Shared r) = is_found r.value ≡ false
