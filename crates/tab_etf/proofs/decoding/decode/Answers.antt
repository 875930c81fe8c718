use Rattle.std.proofs.Common.{ap, subst, ◌∙◌, arith, length}
use Rattle.tab_term.specs.View.{term}
use Rattle.tab_etf.specs.Reading.{Decodes, whole}
use Rattle.tab_etf.proofs.DecodeLemmas.{is_found, only}
use Rattle.tab_etf.proofs.decoding.decode.Goals as goal

pub returns-clause-found : goal.returns-clause-found
returns-clause-found c = is_found c.args.payload.now c.placed.result (λ i. omega (arith, c.type_inv.payload i)) c.placed.ensures

pub returns-clause-only : goal.returns-clause-only
returns-clause-only c = λ t b e s d. subst (λ f. Decodes term (length c.args.payload.now) c.placed.result f) (ap whole e ∙ only t b s d) c.placed.ensures
