use Rattle.std.proofs.Common.{sym, ap, ◌∙◌, ◌&&◌}
use Rattle.std.specs.List.{list_any}
use Rattle.std.specs.Option.{option_copied}
use Rattle.tab_term.specs.View.{term}
use Rattle.tab_term.specs.Same.{same}
use Rattle.tab_locks.specs.Questions.{fits}
use Rattle.tab_locks.proofs.Lookups.{found_any}
use Rattle.tab_locks.proofs.KeySpots.{held_at}
use Rattle.tab_locks.proofs.tied_keys.TiedKeys.any_at.Goals as goal

pub returns-in-Some : goal.returns-in-Some
returns-in-Some c =
    let p = fits c.args.question.relation (c.args.question.age, c.args.question.write) in
    c.any.ensures
    ∙ ap (found_any (list_any p)) (ap option_copied (sym c.in-Some.is) ∙ c.get.ensures.value)
    ∙ sym (held_at p c.args.key.now c.self.inside.holders.entries c.self.invariant.ordered)
    ∙ ap (list_any (λ s. same (term c.args.key.now) s.0 && p s.1)) c.self.view_is

pub returns-in-None : goal.returns-in-None
returns-in-None c =
    let p = fits c.args.question.relation (c.args.question.age, c.args.question.write) in
    ap (found_any (list_any p)) (ap option_copied (sym c.in-None.is) ∙ c.get.ensures.value)
    ∙ sym (held_at p c.args.key.now c.self.inside.holders.entries c.self.invariant.ordered)
    ∙ ap (list_any (λ s. same (term c.args.key.now) s.0 && p s.1)) c.self.view_is
