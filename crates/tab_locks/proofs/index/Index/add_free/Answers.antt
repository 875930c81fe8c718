use Rattle.std.proofs.Common.{◌≡◌, false, ap, sym, subst, ◌∙◌, List, [], ◌∷◌, ◌++◌, Bool, None, arith}
use Rattle.std.specs.BTreeMap.{is_at}
use Rattle.std.specs.List.{list_any, cons_option}
use Rattle.std.specs.Map.{lookup}
use Rattle.std.proofs.lemmas.Result.{on_ok_weaker, on_err_weaker}
use Rattle.tab_term.specs.Order.{bytes_cmp}
use Rattle.tab_model.specs.Ages.{Owned}
use Rattle.tab_model.specs.Locks.{lock}
use Rattle.tab_locks.specs.declared.question.Relation.TheVariants.{Meeting}
use Rattle.tab_locks.specs.Members.{HasMore, SameMembers}
use Rattle.tab_locks.specs.Plain.{part_of, is_write, lock_of}
use Rattle.tab_locks.specs.Questions.{meets_at}
use Rattle.tab_locks.specs.Spots.{locks_in}
use Rattle.tab_locks.proofs.FirstTable.{named, under_it, under_none, more_first, same_first, free_first, asked_others, none_asked, new_first, elsewhere_none, elsewhere_named, elsewhere_found}
use Rattle.tab_locks.proofs.index.Index.add_free.Goals as goal
use Rattle.tab_locks.proofs.index.Index.add_free.Goals.{in_default-via-in-Some+else-eq, in_default-via-in-None+else-not-is_locked}

pub returns-in-Some-clause-ok : goal.returns-in-Some-clause-ok
returns-in-Some-clause-ok c =
    let l = c.args.lock.now in
    let e = c.in-Some.first in
    let os = c.self.inside.others in
    let w = c.add_free.new.self in
    let there = named l.table e.0 c.eq.result c.eq.ensures ∙ c.if-eq.true in
    let before = λ (v : List Owned) (b : Bool). HasMore (c.args.age, lock l.table (part_of l.what) b) v (locks_in ((e.0, w) ∷ []) ++ os) in
    on_ok_weaker c.add_free.result
    (λ h. let more = more_first l.table (part_of l.what, (c.args.age, c.is_write.result)) e w c.self.inside.first os c.in-Some.is there h in
    subst (λ (b : Bool). before c.args.self.now b) c.is_write.ensures (subst (λ (v : List Owned). before v c.is_write.result) c.self.view_is more))
    c.add_free.ensures.ok

pub returns-in-Some-clause-free : goal.returns-in-Some-clause-free
returns-in-Some-clause-free c =
    let l = c.args.lock.now in
    let e = c.in-Some.first in
    let there = named l.table e.0 c.eq.result c.eq.ensures ∙ c.if-eq.true in
    on_ok_weaker c.add_free.result
    (λ h. subst (λ (v : List Owned). list_any (meets_at (c.args.age, lock_of l)) v ≡ false) c.self.view_is
    (free_first l.table c.args.age (is_write l.mode) (part_of l.what) e.1 c.self.inside.first c.self.inside.others (under_it l.table e c.self.inside.first c.in-Some.is there) c.self.invariant h))
    c.add_free.ensures.free

pub returns-in-Some-clause-err : goal.returns-in-Some-clause-err
returns-in-Some-clause-err c =
    let l = c.args.lock.now in
    let e = c.in-Some.first in
    let os = c.self.inside.others in
    let w = c.add_free.new.self in
    let there = named l.table e.0 c.eq.result c.eq.ensures ∙ c.if-eq.true in
    on_err_weaker c.add_free.result (λ h. subst (λ (v : List Owned). SameMembers v (locks_in ((e.0, w) ∷ []) ++ os)) c.self.view_is (same_first l.table e w c.self.inside.first os c.in-Some.is there h)) c.add_free.ensures.err

pub returns-in_ok-table_with-in-None-clause-ok : goal.returns-in_ok-table_with-in-None-clause-ok
returns-in_ok-table_with-in-None-clause-ok c =
    let l = c.args.lock.now in
    let os = c.self.inside.others in
    let t = c.in_ok-table_with-in-None.field-0 in
    let is = c.in_ok-table_with-in-None.ensures in
    subst (λ (v : List Owned). HasMore (c.args.age, lock_of l) v (locks_in (t ∷ []) ++ os)) c.self.view_is
    (new_first l.table t.0 (part_of l.what, (c.args.age, is_write l.mode)) t.1 c.self.inside.first os is.0 c.in-None.is is.1)

pub returns-in_ok-table_with-in-None-clause-free : goal.returns-in_ok-table_with-in-None-clause-free
returns-in_ok-table_with-in-None-clause-free c =
    let l = c.args.lock.now in
    let os = c.self.inside.others in
    let unlocked = sym c.is_locked.ensures ∙ c.if-not-is_locked.true in
    subst (λ (v : List Owned). list_any (meets_at (c.args.age, lock_of l)) v ≡ false) c.self.view_is
    (asked_others l.table Meeting c.args.age (is_write l.mode) (part_of l.what) c.self.inside.first os (under_none l.table c.self.inside.first c.in-None.is)
    ∙ none_asked l.table Meeting c.args.age (is_write l.mode) (part_of l.what) os unlocked)

pub returns-in_default-clause-free : goal.returns-in_default-clause-free
returns-in_default-clause-free c =
    let l = c.args.lock.now in
    let first = c.self.inside.first in
    let free = λ (missing : lookup (is_at (bytes_cmp l.table)) (cons_option first []) ≡ None) (same : c.in_default.self-inside.others ≡ c.self.inside.others). on_ok_weaker c.add_free-in_default.result
    (λ h. subst (λ (v : List Owned). list_any (meets_at (c.args.age, lock_of l)) v ≡ false) c.self.view_is
    (asked_others l.table Meeting c.args.age (is_write l.mode) (part_of l.what) first c.self.inside.others missing ∙ sym (ap (list_any (meets_at (c.args.age, lock_of l))) same) ∙ h))
    c.add_free-in_default.ensures.free in
    elim c.in_default.branch [
      | in_default-via-in-Some+else-eq w ↦ free (elsewhere_found l.table first (elsewhere_named l.table w.in-Some.first w.eq.result first w.in-Some.is w.eq.ensures w.if-eq.false)) (grind (arith, w.self-inside-is))
      | in_default-via-in-None+else-not-is_locked w ↦ free (elsewhere_found l.table first (elsewhere_none l.table first w.in-None.is)) (grind (arith, w.self-inside-is))
    ]
