use Rattle.std.proofs.Common.{◌≡◌, sym, subst}
use Rattle.std.specs.Prelude.{None, MatchOption, map}
use Rattle.tab_model.specs.State.{Session, State, session_at}
use Rattle.tab_core.specs.Parts.{session_of}
use Rattle.tab_core.proofs.MarksLemmas.{overflow_seen}
use Rattle.tab_core.proofs.Core.overflow.Goals as goal

pub returns : goal.returns
returns g c =
    let n = c.args.session in
    let o = c.overflow.result in
    subst (λ (μ : State). MatchOption (session_at μ.sessions n) (o ≡ None) (λ (s : Session). o ≡ s.overflow)) c.self.view_is
    (subst (λ p. MatchOption (session_at (map session_of c.self.inside.machine.sessions) n) (p ≡ None) (λ (s : Session). p ≡ s.overflow)) (sym c.overflow.ensures) (overflow_seen c.self.inside.machine.sessions n))
