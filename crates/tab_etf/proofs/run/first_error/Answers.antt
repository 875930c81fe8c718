use Rattle.tab_etf.proofs.RunsLemmas.{answer_stops}
use Rattle.tab_etf.proofs.run.first_error.Goals as goal

pub returns-in-At : goal.returns-in-At
returns-in-At c = λ answer ran.
    let r = rw c.in-At.is at ran in
    answer_stops r.0 c.in-At.at c.first_fault.result answer r.2 (c.first_fault.ensures r.0 r.1)
