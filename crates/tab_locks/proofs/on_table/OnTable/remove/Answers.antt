use Rattle.std.proofs.Common.{sym, subst, List}
use Rattle.tab_model.specs.declared.data.What.{What}
use Rattle.tab_term.specs.View.{term}
use Rattle.tab_locks.specs.Plain.{part_of}
use Rattle.tab_locks.specs.Members.{Drops}
use Rattle.tab_locks.specs.Spots.{Spot, spots_of, stands_on}
use Rattle.tab_locks.proofs.TableSpots.{dropped_on_all, dropped_on_key}
use Rattle.tab_locks.proofs.on_table.OnTable.remove.Goals as goal

pub returns-in-All : goal.returns-in-All
returns-in-All c =
    let new = spots_of c.remove.new.self c.self.inside.keys in
    let before = λ (v : List Spot). Drops (stands_on (part_of c.args.what) (c.args.age, c.args.write)) v new in
    let at = λ (w : What). Drops (stands_on (part_of w) (c.args.age, c.args.write)) (spots_of c.self.inside.all c.self.inside.keys) new in
    subst before c.self.view_is (subst at (sym c.in-All.is) (dropped_on_all (c.args.age, c.args.write) c.self.inside.all c.remove.new.self c.self.inside.keys c.remove.ensures))

pub returns-in-Key : goal.returns-in-Key
returns-in-Key c =
    let new = spots_of c.self.inside.all c.remove-in-Key.new.self in
    let before = λ (v : List Spot). Drops (stands_on (part_of c.args.what) (c.args.age, c.args.write)) v new in
    let at = λ (w : What). Drops (stands_on (part_of w) (c.args.age, c.args.write)) (spots_of c.self.inside.all c.self.inside.keys) new in
    subst before c.self.view_is (subst at (sym c.in-Key.is) (dropped_on_key (term c.in-Key.key) (c.args.age, c.args.write) c.self.inside.all c.self.inside.keys c.remove-in-Key.new.self c.remove-in-Key.ensures))
