use Rattle.std.proofs.Common.{◌≡◌, sym, ◌∙◌, subst, List, false}
use Rattle.std.proofs.lemmas.Result.{on_ok_weaker, on_err_weaker}
use Rattle.std.specs.List.{list_any}
use Rattle.tab_model.specs.declared.data.What.{What}
use Rattle.tab_model.specs.Locks.{meets}
use Rattle.tab_term.specs.View.{term}
use Rattle.tab_locks.specs.Plain.{part_of}
use Rattle.tab_locks.specs.Members.{HasMore, SameMembers}
use Rattle.tab_locks.specs.Spots.{Spot, spots_of}
use Rattle.tab_locks.proofs.TableSpots.{more_on_all, more_on_key, same_on_keys, free_all, free_key}
use Rattle.tab_locks.proofs.on_table.OnTable.add_free.Goals as goal

pub returns-in_ok-add-in-All-clause-ok : goal.returns-in_ok-add-in-All-clause-ok
returns-in_ok-add-in-All-clause-ok c =
    let new = spots_of c.add.new.self c.self.inside.keys in
    let before = λ (v : List Spot). HasMore (part_of c.args.what.now, (c.args.age, c.args.write)) v new in
    let at = λ (w : What). HasMore (part_of w, (c.args.age, c.args.write)) (spots_of c.self.inside.all c.self.inside.keys) new in
    subst before c.self.view_is (subst at (sym c.in-All.is) (more_on_all (c.args.age, c.args.write) c.self.inside.all c.add.new.self c.self.inside.keys c.in_ok-add-in-All.ensures.ok))

pub returns-in_ok-add-in-All-clause-free : goal.returns-in_ok-add-in-All-clause-free
returns-in_ok-add-in-All-clause-free c =
    let none = sym c.is_occupied.ensures ∙ c.if-is_occupied.false in
    let bare = sym c.is_occupied-in-All.ensures ∙ c.if-is_occupied-2.false in
    let of = λ (v : List Spot). list_any (λ s. meets (part_of c.args.what.now) s.0) v ≡ false in
    let at = λ (w : What). list_any (λ s. meets (part_of w) s.0) (spots_of c.self.inside.all c.self.inside.keys) ≡ false in
    subst of c.self.view_is (subst at (sym c.in-All.is) (free_all c.self.inside.all c.self.inside.keys none bare))

pub returns-in-Key-clause-ok : goal.returns-in-Key-clause-ok
returns-in-Key-clause-ok c =
    let new = spots_of c.self.inside.all c.add_free.new.self in
    let before = λ (v : List Spot). HasMore (part_of c.args.what.now, (c.args.age, c.args.write)) v new in
    let at = λ (w : What). HasMore (part_of w, (c.args.age, c.args.write)) (spots_of c.self.inside.all c.self.inside.keys) new in
    on_ok_weaker c.add_free.result
    (λ h. subst before c.self.view_is (subst at (sym c.in-Key.is) (more_on_key (term c.in-Key.key) (c.args.age, c.args.write) c.self.inside.all c.self.inside.keys c.add_free.new.self h)))
    c.add_free.ensures.ok

pub returns-in-Key-clause-free : goal.returns-in-Key-clause-free
returns-in-Key-clause-free c =
    let none = sym c.is_occupied.ensures ∙ c.if-is_occupied.false in
    let of = λ (v : List Spot). list_any (λ s. meets (part_of c.args.what.now) s.0) v ≡ false in
    let at = λ (w : What). list_any (λ s. meets (part_of w) s.0) (spots_of c.self.inside.all c.self.inside.keys) ≡ false in
    on_ok_weaker c.add_free.result (λ h. subst of c.self.view_is (subst at (sym c.in-Key.is) (free_key (term c.in-Key.key) c.self.inside.all c.self.inside.keys none h))) c.add_free.ensures.free

pub returns-in-Key-clause-err : goal.returns-in-Key-clause-err
returns-in-Key-clause-err c =
    let before = λ (v : List Spot). SameMembers v (spots_of c.self.inside.all c.add_free.new.self) in
    on_err_weaker c.add_free.result (λ h. subst before c.self.view_is (same_on_keys c.self.inside.all c.self.inside.keys c.add_free.new.self h)) c.add_free.ensures.err
