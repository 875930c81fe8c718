use Rattle.std.proofs.Common.{subst, ◌∙◌, List, [], ◌∷◌, ◌++◌, Bool}
use Rattle.std.proofs.lemmas.Result.{on_ok_weaker, on_err_weaker}
use Rattle.tab_model.specs.Ages.{Owned}
use Rattle.tab_model.specs.Locks.{lock}
use Rattle.tab_locks.specs.Members.{HasMore, SameMembers}
use Rattle.tab_locks.specs.Plain.{part_of, is_write, lock_of}
use Rattle.tab_locks.specs.Spots.{locks_in}
use Rattle.tab_locks.proofs.FirstTable.{named, more_first, same_first, new_first}
use Rattle.tab_locks.proofs.index.Index.add.Goals as goal

pub returns-in-Some-clause-ok : goal.returns-in-Some-clause-ok
returns-in-Some-clause-ok c =
    let l = c.args.lock.now in
    let e = c.in-Some.first in
    let os = c.self.inside.others in
    let w = c.add.new.self in
    let there = named l.table e.0 c.eq.result c.eq.ensures ∙ c.if-eq.true in
    let before = λ (v : List Owned) (b : Bool). HasMore (c.args.age, lock l.table (part_of l.what) b) v (locks_in ((e.0, w) ∷ []) ++ os) in
    on_ok_weaker c.add.result
    (λ h. let more = more_first l.table (part_of l.what, (c.args.age, c.is_write-write.result)) e w c.self.inside.first os c.in-Some.is there h in
    subst (λ (b : Bool). before c.args.self.now b) c.is_write-write.ensures (subst (λ (v : List Owned). before v c.is_write-write.result) c.self.view_is more))
    c.add.ensures.ok

pub returns-in-Some-clause-err : goal.returns-in-Some-clause-err
returns-in-Some-clause-err c =
    let l = c.args.lock.now in
    let e = c.in-Some.first in
    let os = c.self.inside.others in
    let w = c.add.new.self in
    let there = named l.table e.0 c.eq.result c.eq.ensures ∙ c.if-eq.true in
    on_err_weaker c.add.result (λ h. subst (λ (v : List Owned). SameMembers v (locks_in ((e.0, w) ∷ []) ++ os)) c.self.view_is (same_first l.table e w c.self.inside.first os c.in-Some.is there h)) c.add.ensures.err

pub returns-in_ok-table_with-in-None-clause-ok : goal.returns-in_ok-table_with-in-None-clause-ok
returns-in_ok-table_with-in-None-clause-ok c =
    let l = c.args.lock.now in
    let os = c.self.inside.others in
    let t = c.in_ok-table_with-in-None.field-0 in
    let is = c.in_ok-table_with-in-None.ensures in
    subst (λ (v : List Owned). HasMore (c.args.age, lock_of l) v (locks_in (t ∷ []) ++ os)) c.self.view_is
    (new_first l.table t.0 (part_of l.what, (c.args.age, is_write l.mode)) t.1 c.self.inside.first os is.0 c.in-None.is is.1)
