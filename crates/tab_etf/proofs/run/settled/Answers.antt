use Rattle.std.proofs.lemmas.Result.{err_from_is_err_and}
use Rattle.std.proofs.Common.{ℕ, List, Bor}
use Rattle.tab_etf.proofs.RunsLemmas.{answer_is, answer_fails, in_bytes}
use Rattle.tab_etf.proofs.run.settled.Goals as goal

pub returns-in_err-ordered-in-Ok : goal.returns-in_err-ordered-in-Ok
returns-in_err-ordered-in-Ok c = λ answer ran.
    let r = rw c.in-Ok.is at ran in
    let p = err_from_is_err_and c.from_residual.result c.from_residual.ensures.1 in
    rw (p.1, p.2) (answer_fails r.0 c.in-Ok.rest.now answer r.2 c.in_err-ordered-in-Ok.field-0.0 (c.in_err-ordered-in-Ok.ensures r.0 r.1))

pub returns-in_ok-ordered-in-Ok : goal.returns-in_ok-ordered-in-Ok
returns-in_ok-ordered-in-Ok c = λ answer ran.
    let r = rw c.in-Ok.is at ran in
    answer_is r.0 c.in-Ok.rest.now answer r.2 c.in_ok-ordered-in-Ok.field-0 (c.in_ok-ordered-in-Ok.ensures r.0 r.1)

pub returns-in-Err : goal.returns-in-Err
returns-in-Err c = λ answer ran.
    let r = rw c.in-Err.is at ran in
    c.first_error.ensures answer (in_bytes (λ (x : Bor (List ℕ)). x.now) c.args.run c.in-Err.error answer r)
