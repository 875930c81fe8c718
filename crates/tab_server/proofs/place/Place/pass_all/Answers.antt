use Rattle.std.proofs.Common.{◌-◌, ◌++◌, List, ℕ, length, take, drop, [], refl, sym, ap, subst, ◌∙◌, append_assoc}
use Rattle.tab_server.specs.Placed.{GoesPast}
use Rattle.tab_server.proofs.Placing.{past_none, past_on, rest_split, some_bytes}
use Rattle.tab_server.proofs.place.Place.pass_all.Goals as goal

pub loop-rest-init : goal.loop-rest-init
loop-rest-init c = ([], refl, λ at h. past_none at c.args.self.now h)

pub loop-rest-preserved : goal.loop-rest-preserved
loop-rest-preserved c =
    let rest : List ℕ = c.loop-rest.rest.now in
    let n : ℕ = c.pass.result in
    let i = c.loop-rest.invariant in (
      i.0 ++ take n rest,
      i.1 ∙ ap (λ (b : List ℕ). i.0 ++ b) (rest_split n rest) ∙ sym (append_assoc i.0 (take n rest) (take (length rest - n) (drop n rest))),
      λ at h.
          let g = i.2 at h in
          subst (λ (b : List ℕ). GoesPast b c.pass.new.self) (append_assoc at i.0 (take n rest)) (past_on (at ++ i.0) (take n rest) c.loop-rest.self c.pass.new.self g (c.pass.ensures.passes g.left g.at (some_bytes (length rest) (sym c.is_empty.ensures ∙ c.loop-rest-test.true)))),
    )
