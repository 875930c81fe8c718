use Rattle.std.proofs.Common.{arith, sym, ◌∙◌}
use Rattle.tab_map.proofs.RemovalLemmas.{last_branch_taken, alone}
use Rattle.tab_map.proofs.Node.take_last_branch.Goals as goal

pub returns : goal.returns
returns g c = last_branch_taken _ _ _ _ c.in_ok-branch.ensures.items c.requires

-- there is no branch before or after
pub returns-in_err-branch : goal.returns-in_err-branch
returns-in_err-branch g c =
    let none = c.in_err-branch.ensures.cases in
    let old = alone c.args.self.now.branches.items c.args.self.now.last (omega (arith, none.0, c.args.self.now.branches.ok)) in
    let new = alone c.pop.new.self.items c.args.self.now.last (omega (arith, none.1, c.pop.new.self.ok)) in
    rw c.from_residual.ensures (sym old ∙ c.requires, sym new ∙ c.requires)
