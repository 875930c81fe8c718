use Rattle.std.proofs.Common.{◌≡◌, ◌≢◌, ap, sym, subst, ◌∙◌, arith, length}
use Rattle.std.specs.Prelude.{IfSome}
use Rattle.tab_term.specs.Data.{count, tuple}
use Rattle.tab_term.specs.View.{term}
use Rattle.tab_term.proofs.Lists.{count_terms}
use Rattle.tab_proto.specs.Reading.{is_pair}
use Rattle.tab_proto.proofs.Arity.{not_pair}
use Rattle.tab_proto.proofs.call.pair_of.Goals as goal

pub returns-then-len-ne2-clause-bad : goal.returns-then-len-ne2-clause-bad
returns-then-len-ne2-clause-bad c =
    let is : term c.args.held ≡ tuple c.in-Some.parts = subst (λ r. IfSome r (λ ts. term c.args.held ≡ tuple ts)) c.in-Some.is c.into_tuple.ensures.some in
    let same : count c.in-Some.parts ≡ length c.into_vec-parts.result.items = ap count (sym c.into_vec-parts.ensures) ∙ count_terms c.into_vec-parts.result.items in
    let other : count c.in-Some.parts ≢ 2 = λ e. absurd (omega (arith, c.if-len-ne2.true, c.len.ensures, same, e)) in
    ap is_pair is ∙ not_pair c.in-Some.parts other
