use Rattle.std.proofs.Common.{◌≡◌, true, false, ap, sym, ◌∙◌, ◌||◌}
use Rattle.std.proofs.lemmas.List.Folds.{list_any-append}
use Rattle.std.specs.List.{list_any}
use Rattle.tab_term.specs.Same.{same}
use Rattle.tab_term.specs.View.{term}
use Rattle.tab_locks.specs.Spots.{KeySpot}
use Rattle.tab_locks.proofs.Passing.{any_below}
use Rattle.tab_locks.proofs.keys.Keys.add_free.Goals as goal

pub returns-then-branch-clause-free : goal.returns-then-branch-clause-free
returns-then-branch-clause-free c =
    let has = λ (s : KeySpot). same (term c.args.key.now) s.0 in
    let bare : list_any has c.self.inside.tied ≡ false = any_below has (λ (s : KeySpot). true) c.self.inside.tied (λ s e. absurd cc) (sym c.is_occupied.ensures ∙ c.if-is_occupied.false) in
    ap (list_any has) (sym c.self.view_is) ∙ list_any-append has c.self.inside.first c.self.inside.tied ∙ (λ i. c.in_ok-add_free.ensures.free i || bare i)
