use Rattle.std.proofs.Common.{sym, ap, ◌∙◌}
use Rattle.tab_model.specs.Ages.{without}
use Rattle.tab_locks.specs.Placed.{listed}
use Rattle.tab_locks.proofs.Listing.{listed_without}
use Rattle.tab_locks.proofs.HoldAndRelease.{indexed_released, nothing_indexed}
use Rattle.tab_locks.proofs.lock_table.LockTable.release_all.Goals as goal

pub returns-in_default : goal.returns-in_default
returns-in_default c = ap listed c.remove.ensures.entries ∙ listed_without c.args.age c.self.inside.owners.entries c.self.invariant.ordered ∙ ap (without c.args.age) c.self.view_is

pub invariant_of-self-then-is_empty : goal.invariant_of-self-then-is_empty
invariant_of-self-then-is_empty c =
    record {
      ordered = c.remove.ensures.ordered;
      indexed = nothing_indexed c.is_empty.result c.remove.new.self.entries c.new.result c.is_empty.ensures c.if-is_empty.true c.new.ensures;
    }

pub returns-then-is_empty : goal.returns-then-is_empty
returns-then-is_empty c = ap listed c.remove.ensures.entries ∙ listed_without c.args.age c.self.inside.owners.entries c.self.invariant.ordered ∙ ap (without c.args.age) c.self.view_is

pub invariant_of-self-2 : goal.invariant_of-self-2
invariant_of-self-2 c =
    record {
      ordered = c.remove.ensures.ordered;
      indexed = indexed_released c.args.age c.in-Some.locks c.self.inside.owners.entries c.remove.new.self.entries c.self.inside.index c.release.new.index c.self.invariant.ordered
          (sym c.remove.ensures.value ∙ c.in-Some.is) c.remove.ensures.entries c.self.invariant.indexed c.release.ensures;
    }

pub returns : goal.returns
returns c = ap listed c.remove.ensures.entries ∙ listed_without c.args.age c.self.inside.owners.entries c.self.invariant.ordered ∙ ap (without c.args.age) c.self.view_is
