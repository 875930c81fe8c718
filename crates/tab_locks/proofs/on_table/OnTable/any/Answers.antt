use Rattle.std.proofs.Common.{sym, ap, ◌∙◌, ◌||◌, ◌&&◌}
use Rattle.std.specs.List.{list_any}
use Rattle.tab_term.specs.View.{term}
use Rattle.tab_locks.specs.Plain.{part_of}
use Rattle.tab_locks.specs.Questions.{fits, reaches}
use Rattle.tab_locks.proofs.TableSpots.{asked_first, asked_all, asked_key}
use Rattle.tab_locks.proofs.on_table.OnTable.any.Goals as goal

pub returns-then-any : goal.returns-then-any
returns-then-any c =
    let r = c.args.question.relation in
    let p = fits r (c.args.question.age, c.args.question.write) in
    let part = part_of c.args.what.now in
    sym (asked_first r p c.self.inside.all c.self.inside.keys part (sym c.any.ensures ∙ c.if-any.true)) ∙ ap (list_any (λ s. reaches r part s.0 && p s.1)) c.self.view_is

pub returns-then-reaches_keys : goal.returns-then-reaches_keys
returns-then-reaches_keys c =
    let r = c.args.question.relation in
    let p = fits r (c.args.question.age, c.args.question.write) in
    let none = sym c.if-any.false ∙ c.any.ensures in
    (λ i. none i || (sym c.if-reaches_keys.true i && c.any_key.ensures i))
    ∙ sym (asked_all r p c.self.inside.all c.self.inside.keys c.reaches_keys.result c.reaches_keys.ensures)
    ∙ (λ i. list_any (λ s. reaches r (part_of (sym c.in-All.is i)) s.0 && p s.1) (c.self.view_is i))

pub returns-else-reaches_keys : goal.returns-else-reaches_keys
returns-else-reaches_keys c =
    let r = c.args.question.relation in
    let p = fits r (c.args.question.age, c.args.question.write) in
    let none = sym c.if-any.false ∙ c.any.ensures in
    c.if-reaches_keys.false ∙ (λ i. none i || (sym c.if-reaches_keys.false i && list_any (λ s. p s.1) c.self.inside.keys))
    ∙ sym (asked_all r p c.self.inside.all c.self.inside.keys c.reaches_keys.result c.reaches_keys.ensures)
    ∙ (λ i. list_any (λ s. reaches r (part_of (sym c.in-All.is i)) s.0 && p s.1) (c.self.view_is i))

pub returns-in-Key : goal.returns-in-Key
returns-in-Key c =
    let r = c.args.question.relation in
    let p = fits r (c.args.question.age, c.args.question.write) in
    let none = sym c.if-any.false ∙ c.any.ensures in
    (λ i. none i || c.any_at.ensures i)
    ∙ sym (asked_key r p c.self.inside.all c.self.inside.keys (term c.in-Key.key))
    ∙ (λ i. list_any (λ s. reaches r (part_of (sym c.in-Key.is i)) s.0 && p s.1) (c.self.view_is i))
