use Rattle.std.proofs.Common.{◌≡◌, ap, sym, ◌∙◌, subst, Err}
use Rattle.std.proofs.lemmas.Result.{err_from_is_err_and}
use Rattle.std.proofs.lemmas.Bool.{false≢true}
use Rattle.tab_term.specs.View.{term}
use Rattle.tab_proto.specs.declared.fault.ProtoFault.TheVariants.{BadCommand}
use Rattle.tab_proto.specs.Requests.{asked_term, is_asked, ReadsAs}
use Rattle.tab_proto.proofs.CommandTerms.{request_is_known}
use Rattle.tab_proto.proofs.RequestsApart.{asked_in}
use Rattle.tab_proto.proofs.requests.read_request.Goals as goal

pub returns-in_err-read_asked-clause-only : goal.returns-in_err-read_asked-clause-only
returns-in_err-read_asked-clause-only c =
    let p = err_from_is_err_and c.from_residual-in_err-read_asked.result c.from_residual-in_err-read_asked.ensures.1 in
    λ session r number formed same bad.
    let asks : asked_term r ≡ term c.in_ok-_number.asked = ap asked_in (same ∙ c.in_ok-_number.ensures.ok) in
    let fault : c.in_err-read_asked.field-0.0 ≡ BadCommand = cc (p.1, p.2, bad) in
    let unknown = subst (λ e. ReadsAs (term c.in_ok-_number.asked) (is_asked (term c.in_ok-_number.asked)) (Err e)) fault c.in_err-read_asked.ensures in
    false≢true (sym unknown ∙ ap is_asked (sym asks) ∙ request_is_known r formed)
