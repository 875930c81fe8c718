use Rattle.std.proofs.Common.{◌≡◌, [], ◌∷◌, ◌∙◌, sym, ap, subst, drop, MatchOption, arith}
use Rattle.tab_map.specs.Ahead.{first_known}
use Rattle.tab_map.proofs.EntriesLeftLemmas.{left_passed, none_behind, next_behind}
use Rattle.tab_map.proofs.iter.Iter.+nth.Goals as goal

pub invariant_of-self : goal.invariant_of-self
invariant_of-self g t c =
    let left = left_passed g.met.K.Ord.total c.min-passed.result c.self.inside.map.now (first_known c.self.inside.ahead) c.pass.new.self c.self.invariant.0 (c.pass.ensures _ c.self.invariant.1) in
    (c.self.invariant.0, left.1)

pub returns-in_err-entry : goal.returns-in_err-entry
returns-in_err-entry g t c =
    let left = left_passed g.met.K.Ord.total c.min-passed.result c.self.inside.map.now (first_known c.self.inside.ahead) c.pass.new.self c.self.invariant.0 (c.pass.ensures _ c.self.invariant.1) in
    let is = left.0 ∙ ap (drop c.min-passed.result) c.self.view_is in
    let end = c.in_err-entry.ensures.steps in
    rw c.from_residual.ensures (none_behind c.args.n c.min-passed.result c.args.self.now (omega (arith, c.min-passed.ensures)) (sym is ∙ end.0), end.1)

pub returns-then-passed-n : goal.returns-then-passed-n
returns-then-passed-n g t c =
    let left = left_passed g.met.K.Ord.total c.min-passed.result c.self.inside.map.now (first_known c.self.inside.ahead) c.pass.new.self c.self.invariant.0 (c.pass.ensures _ c.self.invariant.1) in
    let is = left.0 ∙ ap (drop c.min-passed.result) c.self.view_is in
    ap (λ z. drop z c.args.self.now) (sym c.if-passed-n.true) ∙ sym is ∙ c.in_ok-entry.ensures.steps

pub returns : goal.returns
returns g t c =
    let left = left_passed g.met.K.Ord.total c.min-passed.result c.self.inside.map.now (first_known c.self.inside.ahead) c.pass.new.self c.self.invariant.0 (c.pass.ensures _ c.self.invariant.1) in
    let is = left.0 ∙ ap (drop c.min-passed.result) c.self.view_is in
    let behind = next_behind c.args.n c.min-passed.result c.args.self.now c.in_ok-entry.entry.now c.next.new.self (omega (arith, c.min-passed.ensures, c.if-passed-n.false)) (sym is ∙ c.in_ok-entry.ensures.steps) in
    subst (λ z. MatchOption c.nth.result ((z ≡ []) × (c.nth.new.self ≡ [])) (λ entry. z ≡ entry.now ∷ c.nth.new.self)) behind c.nth.ensures
