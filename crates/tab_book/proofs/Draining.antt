-- What an inbox shows of the post that it meets, and what a Take then tells.
use Rattle.std.proofs.Common.{◌≡◌, ℕ, List, [], ◌∷◌, ◌++◌, refl, sym, ap, ◌∙◌, subst, Option, Some, None}
use Rattle.std.specs.Prelude.{MatchOption, option_map}
use Rattle.tab_model.specs.declared.data.Item.{Item}
use Rattle.tab_model.specs.declared.data.Reply.TheVariants as reply
use Rattle.tab_model.specs.State.{Outbox, Session, State, session_at}
use Rattle.tab_model.specs.Standing.{AreChannels}
use Rattle.tab_model.specs.declared.ask.Ask.TheVariants.{Take}
use Rattle.tab_model.specs.Outcome.{Outcome, outcome, step_of, give, items_to_take}
use Rattle.tab_model.proofs.PostsStay.{IsChannel, found_has}
use Rattle.tab_outbox.specs.declared.mailbox.Met.{Met}
use Rattle.tab_outbox.specs.declared.mailbox.Met.TheVariants as met
use Rattle.tab_outbox.specs.Mailboxes.{Meets}
use Rattle.tab_journal.specs.Journals.{JournalView}
use Rattle.tab_book.specs.declared.step.Drained.{Drained}
use Rattle.tab_book.specs.declared.step.Drained.TheVariants.{Going, AllTaken, Overflow, Left}
use Rattle.tab_book.specs.Logs.{Made, made}
use Rattle.tab_book.specs.Running.{Running}
use Rattle.tab_book.specs.Inboxes.{Drains, TellsOverflow}

abbrev boxes : Running → ℕ → Option Outbox
boxes b n = option_map (λ (s : Session). s.outbox) (session_at b.state.sessions n)

module _ (b : Running) (n mailbox : ℕ) (before after : List Item) where
  pub left : Meets (boxes b n) mailbox before None after → Drains b n mailbox before Left after b
  left h = by (session_at b.state.sessions n) refl h
    where
      by : (o : Option Session) → session_at b.state.sessions n ≡ o → Meets (option_map (λ (s : Session). s.outbox) o) mailbox before None after → Drains b n mailbox before Left after b
      by None e h = (e, h, refl)
      by (Some s) e h = absurd h

  pub going : (x : Item) → Meets (boxes b n) mailbox before (Some (met.Going x)) after → Drains b n mailbox before (Going x) after b
  going x h = by (session_at b.state.sessions n) refl h
    where
      by : (o : Option Session) → session_at b.state.sessions n ≡ o → Meets (option_map (λ (s : Session). s.outbox) o) mailbox before (Some (met.Going x)) after → Drains b n mailbox before (Going x) after b
      by None e h = absurd h
      by (Some s) e h = (s, record { there = e; own = h.0 }, h.1.0, h.1.1, refl)

  pub apart : Meets (boxes b n) mailbox before (Some met.Apart) after → Drains b n mailbox before AllTaken after b
  apart h = by (session_at b.state.sessions n) refl h
    where
      by : (o : Option Session) → session_at b.state.sessions n ≡ o → Meets (option_map (λ (s : Session). s.outbox) o) mailbox before (Some met.Apart) after → Drains b n mailbox before AllTaken after b
      by None e h = absurd h
      by (Some s) e h = (s, e, h.1, refl, λ own. absurd (h.0 own))

  -- where all is taken the session is joined
  pub taken_there : Meets (boxes b n) mailbox before (Some met.All) after → (s : Session) × (session_at b.state.sessions n ≡ Some s)
  taken_there h = by (session_at b.state.sessions n) refl h
    where
      by : (o : Option Session) → session_at b.state.sessions n ≡ o → Meets (option_map (λ (s : Session). s.outbox) o) mailbox before (Some met.All) after → (s : Session) × (session_at b.state.sessions n ≡ Some s)
      by None e h = absurd h
      by (Some s) e h = (s, e)

  pub all : (r : Drained) (new : Running) → Meets (boxes b n) mailbox before (Some met.All) after
      → (s : Session) × (session_at b.state.sessions n ≡ Some s) × TellsOverflow b n s.overflow r new → Drains b n mailbox before r after new
  all r new h (s, here, tells) = by s.overflow refl tells (subst (λ o. Meets (option_map (λ (x : Session). x.outbox) o) mailbox before (Some met.All) after) here h)
    where
      by : (o : Option ℕ) → s.overflow ≡ o → TellsOverflow b n o r new → Meets (Some s.outbox) mailbox before (Some met.All) after → Drains b n mailbox before r after new
      by None e t m = subst (λ (x : Drained). Drains b n mailbox before x after new) (sym t.0) (s, here, m.1.0, t.1, λ own. (m.1.1, e))
      by (Some c) e t m = subst (λ (x : Drained). Drains b n mailbox before x after new) (sym t.0) (s, record { there = here; own = m.0 }, m.1.0, m.1.1, e, t.1)

-- a Take of a session with a channel
pub takes : (σ : State) (over : List ℕ) (n : ℕ) (s : Session) → session_at σ.sessions n ≡ Some s → AreChannels σ → outcome σ over n Take ≡ give σ s [] s.overflow
unfolding outcome
takes σ over n s here channels = ap (step_of σ over n Take) here ∙ ap (λ c. give σ s (items_to_take s.outbox c) s.overflow) (found_has IsChannel σ.sessions n s channels here)

-- ---- what a Take then tells

module _ (σ : State) (j : JournalView) (log : List Made) (n : ℕ) (s : Session) (here : session_at σ.sessions n ≡ Some s) (x : Option ℕ) (is : MatchOption (session_at σ.sessions n) (x ≡ None) (λ t. x ≡ t.overflow)) where
  abbrev now : Running
  now = record { state = σ; journal = j; log = log }

  -- what the session's overflow was
  overflow_is : x ≡ s.overflow
  overflow_is = subst (λ (o : Option Session). MatchOption o (x ≡ None) (λ t. x ≡ t.overflow)) here is

  pub tells : (over : List ℕ) (o : Outcome) → AreChannels σ → outcome σ over n Take ≡ o → (c : ℕ) → x ≡ Some c → (all : List Made) → all ≡ log ++ made n Take o.reply ∷ []
      → (s : Session) × (session_at σ.sessions n ≡ Some s) × TellsOverflow now n s.overflow (Overflow c) (record { state = o.state; journal = j; log = all })
  tells over o channels took c e all logged = (
    s,
    here,
    subst (λ (l : Option ℕ). TellsOverflow now n l (Overflow c) (record { state = o.state; journal = j; log = all })) (sym e ∙ overflow_is) (refl, λ i. record { state = same_state i; journal = j; log = same_log i }),
  )
    where
      gives : o ≡ give σ s [] s.overflow
      gives = sym took ∙ takes σ over n s here channels

      same_state : o.state ≡ (outcome σ [] n Take).state
      same_state = ap (λ (x : Outcome). x.state) (gives ∙ sym (takes σ [] n s here channels))

      told : o.reply ≡ reply.Overflow c
      told = ap (λ (x : Outcome). x.reply) (gives ∙ ap (give σ s []) (sym overflow_is ∙ e))

      same_log : all ≡ log ++ made n Take (reply.Overflow c) ∷ []
      same_log = logged ∙ ap (λ r. log ++ made n Take r ∷ []) told

  pub tells_none : x ≡ None → (s : Session) × (session_at σ.sessions n ≡ Some s) × TellsOverflow now n s.overflow AllTaken now
  tells_none e = (s, here, subst (λ (l : Option ℕ). TellsOverflow now n l AllTaken now) (sym e ∙ overflow_is) (refl, refl))

-- ---- as the call says it

module _ (b : Running) (n mailbox : ℕ) (before after : List Item) (r : Option Met) (x : Met) (is : r ≡ Some x) where
  pub taken_there_at : x ≡ met.All → Meets (boxes b n) mailbox before r after → (s : Session) × (session_at b.state.sessions n ≡ Some s)
  taken_there_at e h = taken_there b n mailbox before after (subst (λ (o : Option Met). Meets (boxes b n) mailbox before o after) (is ∙ ap Some e) h)

  pub apart_at : x ≡ met.Apart → Meets (boxes b n) mailbox before r after → Drains b n mailbox before AllTaken after b
  apart_at e h = apart b n mailbox before after (subst (λ (o : Option Met). Meets (boxes b n) mailbox before o after) (is ∙ ap Some e) h)
