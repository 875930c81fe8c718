use Rattle.std.proofs.Common.{◌≡◌, ℕ, ◌+◌, ◌<◌, ◌/◌, ◌*◌, ◌%◌, ◌↔◌, IsTrue, nat_eq, Some, sym, ap, subst, ◌∙◌, add-zero}
use Rattle.std.proofs.lemmas.Bool.{eq-eqb, eqb-true}
use Rattle.std.proofs.Math.Nat.{mul-mod_left}
use Rattle.std.proofs.lemmas.Nat.{div-add-mod'}
use Rattle.tab_server.specs.Idle.{IsMultiple, IsReached}
use Rattle.tab_server.proofs.silence.Silence.reaches.Goals as goal

no_rest : (limit seconds : ℕ) → IsMultiple limit seconds → seconds % limit ≡ 0
no_rest limit seconds (k, e) = ap (λ n. n % limit) e ∙ mul-mod_left k limit

is_multiple : (limit seconds : ℕ) → seconds % limit ≡ 0 → IsMultiple limit seconds
is_multiple limit seconds e = (seconds / limit, sym (div-add-mod' seconds limit) ∙ ap (λ n. seconds / limit * limit + n) e ∙ add-zero _)

reached : (limit seconds : ℕ) → 0 < limit → IsTrue (nat_eq (seconds % limit) 0) ↔ IsReached seconds (Some limit)
reached limit seconds positive =
    (λ yes. (positive, is_multiple limit seconds (eqb-true _ _ yes)), λ is. eq-eqb _ _ (no_rest limit seconds is.1))

pub returns-then-limit-gt0 : goal.returns-then-limit-gt0
returns-then-limit-gt0 c =
    subst (λ o. IsTrue (nat_eq (c.args.self.now.seconds % c.from.result) 0) ↔ IsReached c.args.self.now.seconds o) (sym c.in-Some.is)
    (rw c.from.ensures (reached c.in-Some.limit c.args.self.now.seconds c.if-limit-gt0.true))
