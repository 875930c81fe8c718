-- The commands that add nothing to the log.
use Rattle.std.proofs.Common.{◌≡◌, ◌≢◌, ℕ, List, false, Option, None, Some, refl}
use Rattle.tab_term.specs.declared.term.Term.{Term}
use Rattle.tab_model.specs.declared.ask.Ask.TheVariants.{Do as DoCommand}
use Rattle.tab_model.specs.declared.data.Command.{Command}
use Rattle.tab_model.specs.declared.data.Command.TheVariants as command
use Rattle.tab_model.specs.declared.data.Operation.{Operation}
use Rattle.tab_model.specs.declared.data.Reply.{Reply}
use Rattle.tab_model.specs.Ages.{Answer, Granted, Wait, Die, decide}
use Rattle.tab_model.specs.Locks.{needs}
use Rattle.tab_model.specs.State.{State, Session, Transaction, ages_of, session_at}
use Rattle.tab_model.specs.Outcome.{Outcome, outcome, step_of, do_command, unless_refused, operate, by_lock_answer, begin, abort}
use Rattle.tab_server.specs.Putting.{may_put, IsSilent}

refused : (σ : State) (r : Option Reply) (x : Outcome) → x.entry ≡ None → (unless_refused σ r x).entry ≡ None
refused σ None x none = none
refused σ (Some r) x none = refl

decided : (σ : State) (s : Session) (t : Transaction) (o : Operation) (a : Answer) → (by_lock_answer σ s t o a).entry ≡ None
decided σ s t o Granted = refl
decided σ s t o Wait = refl
decided σ s t o Die = refl

operated : (σ : State) (s : Session) (o : Operation) (t : Option Transaction) → (operate σ s o t).entry ≡ None
operated σ s o None = refl
operated σ s o (Some t) = refused σ _ _ (decided σ s t o (decide (ages_of σ) (t.age, needs o)))

begun : (σ : State) (s : Session) (t : Option Transaction) → (begin σ s t).entry ≡ None
begun σ s None = refused σ _ _ refl
begun σ s (Some t) = refused σ _ _ refl

aborted : (σ : State) (s : Session) (r : Term) (t : Option Transaction) → (abort σ s r t).entry ≡ None
aborted σ s r None = refl
aborted σ s r (Some t) = refl

done : (σ : State) (over : List ℕ) (s : Session) (c : Command) → may_put c ≡ false → c ≢ command.Commit → (do_command σ over s c).entry ≡ None
done σ over s (command.Schema x) none other = absurd cc
done σ over s (command.TableInfo t i) none other = refl
done σ over s command.Begin none other = begun σ s s.transaction
done σ over s command.Commit none other = absurd (other refl)
done σ over s (command.Abort r) none other = aborted σ s r s.transaction
done σ over s (command.Do o) none other = operated σ s o s.transaction
done σ over s (command.Subscribe t l dump) none other = absurd cc
done σ over s (command.Unsubscribe t l) none other = absurd cc
done σ over s (command.OneShot parts retries) none other = refused σ _ _ refl

stepped : (σ : State) (over : List ℕ) (n : ℕ) (c : Command) (s : Option Session) → may_put c ≡ false → c ≢ command.Commit → (step_of σ over n (DoCommand c) s).entry ≡ None
stepped σ over n c None none other = refl
stepped σ over n c (Some s) none other = refused σ _ _ (done σ over s c none other)

-- a command that may put nothing adds no entry, unless it is a commit
pub silent : (c : Command) → may_put c ≡ false → c ≢ command.Commit → IsSilent c
unfolding outcome
silent c none other σ over n = stepped σ over n c (session_at σ.sessions n) none other
