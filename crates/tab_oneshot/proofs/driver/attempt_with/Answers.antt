use Rattle.std.proofs.Common.{List, inl, inr, refl, subst}
use Rattle.tab_term.specs.Data.{PlainTerms}
use Rattle.tab_model.specs.declared.data.Part.{Part}
use Rattle.tab_model.specs.declared.data.Reply.{Reply}
use Rattle.tab_oneshot.specs.Attempts.{Ends, IsAttempt}
use Rattle.tab_oneshot.proofs.driver.attempt_with.Goals as goal

pub returns-in_default : goal.returns-in_default
returns-in_default g c all h k =
    let e = c.end.ensures in
    (e.0, e.1, inr (c.end.result, subst (λ (q : Reply). Ends 1 q e.0 c.end.result) c.no_memory.ensures e.2, refl))

pub returns : goal.returns
returns g c all h k =
    let a = c.attempt.ensures in (
      a.0,
      a.1,
      inl (subst (λ (ls : List PlainTerms). IsAttempt all 0 ls a.0 c.attempt.result) c.requires
          (subst (λ (ps : List Part). IsAttempt ps 0 c.args.levels.now a.0 c.attempt.result) (c.in-Ok.ensures all h k) a.2)),
    )
