use Rattle.std.proofs.Common.{◌∙◌, sym, subst, ◌<◌, ◌≤◌}
use Rattle.tab_session.proofs.Joining.{joined, not_above, admitted, full}
use Rattle.tab_session.proofs.answering.join_refusal.Goals as goal

pub returns-then-joined : goal.returns-then-joined
returns-then-joined c = joined c.args.core.now c.args.session (sym c.joined.ensures ∙ c.if-joined.true)

pub returns-then-session-greatest : goal.returns-then-session-greatest
returns-then-session-greatest c = not_above c.args.core.now c.args.session (subst (λ g. c.args.session ≤ g) c.greatest.ensures c.if-session-greatest.true)

pub returns-then-admits : goal.returns-then-admits
returns-then-admits c = admitted c.args.core.now c.args.session (sym c.joined.ensures ∙ c.if-joined.false) (sym c.admits.ensures ∙ c.if-admits.true)

pub returns : goal.returns
returns c =
    full c.args.core.now c.args.session
    (sym c.joined.ensures ∙ c.if-joined.false)
    (subst (λ g. g < c.args.session) c.greatest.ensures c.if-session-greatest.false)
    (sym c.admits.ensures ∙ c.if-admits.false)
