-- A joined session, whose open transaction is one of this crate.
use Rattle.tab_subs.specs.Subscribers as subs
use Rattle.tab_core.specs.declared.transaction.Transaction as kept

abbrev pub Subscriber : Type 0
Subscriber = subs.Subscriber kept.Transaction
