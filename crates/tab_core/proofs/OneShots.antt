-- A one-shot opens level 1.
use Rattle.std.proofs.Common.{◌≡◌, ℕ, List, [], false, sym, ap, ◌∙◌, Some, None}
use Rattle.std.specs.Prelude.{option_map}
use Rattle.tab_model.specs.declared.data.Part.{Part}
use Rattle.tab_model.specs.declared.data.Command.{Command}
use Rattle.tab_model.specs.declared.data.Command.TheVariants as command
use Rattle.tab_model.specs.declared.data.Reply.{Reply}
use Rattle.tab_model.specs.declared.data.Reply.TheVariants as reply
use Rattle.tab_model.specs.State.{State, is_waiting}
use Rattle.tab_model.specs.declared.ask.Ask.TheVariants.{Do as DoCommand}
use Rattle.tab_model.specs.Outcome.{outcome, step_without_entry, begin, one_shot, do_command}
use Rattle.tab_core.specs.declared.transaction.Transaction as kept
use Rattle.tab_core.proofs.Keeping as keep
use Rattle.tab_core.proofs.Keeping.{the_session}
use Rattle.tab_core.proofs.Answering as answering
use Rattle.tab_subs.specs.Subscribers.{IsHeldAt, nobody}
use Rattle.tab_core.specs.Parts.{Parts, session_of, state_of, transaction_of}

module _ (m : Parts) (n i : ℕ) (there : IsHeldAt m.sessions n i) (idle : is_waiting (state_of m) n ≡ false) where
  asked : (c : Command) → outcome (state_of m) [] n (DoCommand c) ≡ do_command (state_of m) [] (session_of (the_session m n i)) c
  asked c = keep.idles (state_of m) n (session_of (the_session m n i)) c (answering.here m n i there) (there.number nobody) idle

  pub inside : (t : kept.Transaction) → (the_session m n i).transaction ≡ Some t → (parts : List Part) (retries : ℕ) → outcome (state_of m) [] n (DoCommand (command.OneShot parts retries)) ≡ step_without_entry (state_of m) reply.InTransaction
  inside t e parts retries = asked (command.OneShot parts retries) ∙ ap (one_shot (state_of m) (session_of (the_session m n i))) (ap (option_map transaction_of) e)

  pub outside : (the_session m n i).transaction ≡ None → (τ : State) (r : Reply) → outcome (state_of m) [] n (DoCommand command.Begin) ≡ step_without_entry τ r
      → (parts : List Part) (retries : ℕ) → outcome (state_of m) [] n (DoCommand (command.OneShot parts retries)) ≡ step_without_entry τ r
  outside e τ r h parts retries =
      asked (command.OneShot parts retries) ∙ ap (one_shot (state_of m) (session_of (the_session m n i))) (ap (option_map transaction_of) e)
      ∙ sym (asked command.Begin ∙ ap (begin (state_of m) (session_of (the_session m n i))) (ap (option_map transaction_of) e)) ∙ h
