use Rattle.std.proofs.Common.{sym, ap, ◌∙◌, ◌&&◌}
use Rattle.std.specs.List.{list_any}
use Rattle.std.specs.Option.{option_copied}
use Rattle.tab_locks.specs.Plain.{part_of, is_write, lock_of}
use Rattle.tab_locks.specs.declared.question.Question.{Question}
use Rattle.tab_locks.specs.Questions.{asked, fits, reaches}
use Rattle.tab_locks.proofs.FirstTable.{asked_first, asked_others}
use Rattle.tab_locks.proofs.index.Index.any.Goals as goal

pub returns-in-Some : goal.returns-in-Some
returns-in-Some c =
    let r = c.args.relation in
    let l = c.args.lock.now in
    let part = part_of l.what in
    let found = sym (ap option_copied (sym c.in-Some.is) ∙ c.under.ensures) in
    c.any.ensures ∙ ap (λ (q : Question). list_any (λ s. reaches q.relation part s.0 && fits q.relation (q.age, q.write) s.1) c.in-Some.spots.now) c.of.ensures
    ∙ sym (asked_first l.table r c.args.age (is_write l.mode) part c.in-Some.spots.now c.self.inside.first c.self.inside.others found c.self.invariant)
    ∙ ap (list_any (asked r (c.args.age, lock_of l))) c.self.view_is

pub returns-in-None : goal.returns-in-None
returns-in-None c =
    let r = c.args.relation in
    let l = c.args.lock.now in
    let missing = sym (ap option_copied (sym c.in-None.is) ∙ c.under.ensures) in
    c.any-in-None.ensures ∙ sym (asked_others l.table r c.args.age (is_write l.mode) (part_of l.what) c.self.inside.first c.self.inside.others missing)
    ∙ ap (list_any (asked r (c.args.age, lock_of l))) c.self.view_is
