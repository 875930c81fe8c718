use Rattle.std.proofs.Common.{◌≡◌, ◌≢◌, ap, sym, subst, ◌∙◌, arith, length}
use Rattle.std.specs.Prelude.{IfSome}
use Rattle.tab_term.specs.Data.{count, tuple}
use Rattle.tab_term.specs.View.{term}
use Rattle.tab_term.proofs.Lists.{count_terms}
use Rattle.tab_proto.specs.Reading.{is_call_term}
use Rattle.tab_proto.proofs.Arity.{not_call}
use Rattle.tab_proto.proofs.call.call_of.Goals as goal

pub returns-clause-bad : goal.returns-clause-bad
returns-clause-bad c =
    let is : term c.args.held ≡ tuple c.in-Some.parts = subst (λ r. IfSome r (λ ts. term c.args.held ≡ tuple ts)) c.in-Some.is c.into_tuple.ensures.some in
    let same : count c.in-Some.parts ≡ length c.into_vec-parts.result.items = ap count (sym c.into_vec-parts.ensures) ∙ count_terms c.into_vec-parts.result.items in
    let two : count c.in-Some.parts ≢ 2 = λ e. absurd (omega (arith, c.in_default-len, c.len.ensures, same, e)) in
    let three : count c.in-Some.parts ≢ 3 = λ e. absurd (omega (arith, c.in_default-len, c.len.ensures, same, e)) in
    let four : count c.in-Some.parts ≢ 4 = λ e. absurd (omega (arith, c.in_default-len, c.len.ensures, same, e)) in
    ap is_call_term is ∙ not_call c.in-Some.parts two three four
