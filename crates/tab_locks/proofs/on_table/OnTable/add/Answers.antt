use Rattle.std.proofs.Common.{sym, subst, List}
use Rattle.std.proofs.lemmas.Result.{on_ok_weaker, on_err_weaker}
use Rattle.tab_model.specs.declared.data.What.{What}
use Rattle.tab_term.specs.View.{term}
use Rattle.tab_locks.specs.Plain.{part_of}
use Rattle.tab_locks.specs.Members.{HasMore, SameMembers}
use Rattle.tab_locks.specs.Spots.{Spot, spots_of}
use Rattle.tab_locks.proofs.TableSpots.{more_on_all, more_on_key, same_on_keys}
use Rattle.tab_locks.proofs.on_table.OnTable.add.Goals as goal

pub returns-in-All-clause-ok : goal.returns-in-All-clause-ok
returns-in-All-clause-ok c =
    let new = spots_of c.add.new.self c.self.inside.keys in
    let before = λ (v : List Spot). HasMore (part_of c.args.what.now, (c.args.age, c.args.write)) v new in
    let at = λ (w : What). HasMore (part_of w, (c.args.age, c.args.write)) (spots_of c.self.inside.all c.self.inside.keys) new in
    on_ok_weaker c.add.result (λ h. subst before c.self.view_is (subst at (sym c.in-All.is) (more_on_all (c.args.age, c.args.write) c.self.inside.all c.add.new.self c.self.inside.keys h))) c.add.ensures.ok

pub returns-in-Key-clause-ok : goal.returns-in-Key-clause-ok
returns-in-Key-clause-ok c =
    let new = spots_of c.self.inside.all c.add-in-Key.new.self in
    let before = λ (v : List Spot). HasMore (part_of c.args.what.now, (c.args.age, c.args.write)) v new in
    let at = λ (w : What). HasMore (part_of w, (c.args.age, c.args.write)) (spots_of c.self.inside.all c.self.inside.keys) new in
    on_ok_weaker c.add-in-Key.result
    (λ h. subst before c.self.view_is (subst at (sym c.in-Key.is) (more_on_key (term c.in-Key.key) (c.args.age, c.args.write) c.self.inside.all c.self.inside.keys c.add-in-Key.new.self h)))
    c.add-in-Key.ensures.ok

pub returns-in-Key-clause-err : goal.returns-in-Key-clause-err
returns-in-Key-clause-err c =
    let before = λ (v : List Spot). SameMembers v (spots_of c.self.inside.all c.add-in-Key.new.self) in
    on_err_weaker c.add-in-Key.result (λ h. subst before c.self.view_is (same_on_keys c.self.inside.all c.self.inside.keys c.add-in-Key.new.self h)) c.add-in-Key.ensures.err
