use Rattle.std.proofs.Common.{sym, ap, ◌∙◌, ◌&&◌}
use Rattle.std.specs.List.{list_any}
use Rattle.std.specs.Option.{option_copied}
use Rattle.tab_locks.specs.Plain.{part_of, is_write, lock_of}
use Rattle.tab_locks.specs.declared.question.Question.{Question}
use Rattle.tab_locks.specs.Questions.{asked, fits, reaches}
use Rattle.tab_locks.proofs.Lookups.{found_any}
use Rattle.tab_locks.proofs.TableLocks.{asked_at}
use Rattle.tab_locks.proofs.tables.Tables.any.Goals as goal

pub returns-in-Some : goal.returns-in-Some
returns-in-Some c =
    let r = c.args.relation in
    let l = c.args.lock.now in
    let part = part_of l.what in
    let write = is_write l.mode in
    c.any.ensures ∙ ap (λ (q : Question). list_any (λ s. reaches q.relation part s.0 && fits q.relation (q.age, q.write) s.1) c.in-Some.spots.now) c.of.ensures
    ∙ ap (found_any (list_any (λ s. reaches r part s.0 && fits r (c.args.age, write) s.1))) (ap option_copied (sym c.in-Some.is) ∙ c.get.ensures.value)
    ∙ sym (asked_at r c.args.age write l.table part c.self.inside.tables.entries c.self.invariant.ordered) ∙ ap (list_any (asked r (c.args.age, lock_of l))) c.self.view_is

pub returns-in-None : goal.returns-in-None
returns-in-None c =
    let r = c.args.relation in
    let l = c.args.lock.now in
    let part = part_of l.what in
    let write = is_write l.mode in
    ap (found_any (list_any (λ s. reaches r part s.0 && fits r (c.args.age, write) s.1))) (ap option_copied (sym c.in-None.is) ∙ c.get.ensures.value)
    ∙ sym (asked_at r c.args.age write l.table part c.self.inside.tables.entries c.self.invariant.ordered) ∙ ap (list_any (asked r (c.args.age, lock_of l))) c.self.view_is
