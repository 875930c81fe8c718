-- The transaction of a session, lent: what its borrower leaves there, the session has then.
use Rattle.std.specs.Prelude.{ℕ, List, Option}
use Rattle.std.specs.Borrow.{Lends, MutBor, Fml, RattleType}
use Rattle.std.specs.contracts.option.Option.{the_row as OptionOf}
use Rattle.tab_outbox.specs.declared.post.Post.{Ghosts}
use Rattle.tab_subs.specs.contracts.session.Session as session
use Rattle.tab_subs.specs.contracts.subs.Subs as subs
use Rattle.tab_subs.specs.Subscribers.{Subscriber, with_transaction_at}

module _ (P T : RattleType) (g : Ghosts P.Denot) where
  abbrev pub lends_own : MutBor (Subscriber T.Denot) → MutBor (Option T.Denot) → Fml
  lends_own s r = Lends (session.the_row P T g) (OptionOf T) s r (λ w. record s.now { transaction = w })

  abbrev pub lends_one : MutBor (List (Subscriber T.Denot)) → ℕ → MutBor (Option T.Denot) → Fml
  lends_one s i r = Lends (subs.the_row P T g) (OptionOf T) s r (with_transaction_at s.now i)
