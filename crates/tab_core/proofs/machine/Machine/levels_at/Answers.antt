use Rattle.std.proofs.Common.{◌≡◌, ◌+◌, ℕ, suc, sym, ap, ◌∙◌, arith}
use Rattle.std.specs.Prelude.{◌^◌, ◌-◌, min}
use Rattle.tab_core.specs.Parts.{parts_of}
use Rattle.tab_core.proofs.OutermostLemmas as lemmas
use Rattle.tab_core.proofs.machine.Machine.levels_at.Goals as goal

one_more : (k : ℕ) → k + 1 ≡ suc k
one_more k = omega arith

pub returns-in_default : goal.returns-in_default
returns-in_default g c =
    let m = parts_of c.args.self.now in
    let n = c.args.session in
    let i = c.args.place in
    ap (λ k. min k (2 ^ 64 - 1)) (sym (lemmas.no_levels m n i c.requires.kept c.requires.there (sym c.transaction.ensures ∙ c.in_default.is)))

pub returns : goal.returns
returns g c =
    let m = parts_of c.args.self.now in
    let n = c.args.session in
    let i = c.args.place in
    let open_t = sym c.transaction.ensures ∙ c.in-Some.is in
    c.saturating_add.ensures
    ∙ ap (λ k. min k (2 ^ 64 - 1)) (ap (λ k. k + 1) c.depth.ensures ∙ one_more _ ∙ sym (lemmas.levels_open m n i c.requires.kept c.requires.there c.in-Some.transaction open_t))
