use Rattle.std.proofs.Common.{◌≡◌, Bool, true, false, [], sym, subst, inr, refl}
use Rattle.std.proofs.lemmas.Bool.{false≢true}
use Rattle.tab_model.specs.Run.{entries}
use Rattle.tab_core.specs.Runs.{ask_of, StepsOrNoMemory}
use Rattle.tab_core.proofs.RunsLemmas.{takes_of}
use Rattle.tab_core.proofs.Core.step_reply.Goals as goal

pub returns-in-Ok : goal.returns-in-Ok
returns-in-Ok g c = (
  entries c.in-Ok.stepped.entry,
  subst (λ r. StepsOrNoMemory c.args.self.now (c.args.session, ask_of g.P.Post.outbox c.args.step) r (entries c.in-Ok.stepped.entry) c.step.new.self) (sym c.into_reply.ensures)
      (takes_of c.args.self.now c.step.new.self c.args.session (ask_of g.P.Post.outbox c.args.step) c.in-Ok.stepped c.in-Ok.ensures.done),
)

not_true : (b : Bool) → (b ≡ true → ⊥) → b ≡ false
not_true true h = absurd (h refl)
not_true false h = refl

pub returns-in-Err : goal.returns-in-Err
returns-in-Err g c = ([], inr (not_true _ (λ h. false≢true (c.in-Err.ensures.free h)), c.new.ensures, refl, c.in-Err.ensures.err))
