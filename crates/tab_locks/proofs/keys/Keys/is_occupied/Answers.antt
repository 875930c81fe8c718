use Rattle.std.proofs.Common.{sym, ap, ◌∙◌, ◌||◌, true}
use Rattle.std.proofs.lemmas.List.Folds.{list_any-append}
use Rattle.std.specs.List.{list_any}
use Rattle.tab_locks.proofs.keys.Keys.is_occupied.Goals as goal

pub returns-then-is_occupied : goal.returns-then-is_occupied
returns-then-is_occupied c =
    c.if-is_occupied.true ∙ (λ i. (sym c.if-is_occupied.true ∙ c.is_occupied.ensures) i || list_any (λ s. true) c.self.inside.tied)
    ∙ sym (list_any-append (λ s. true) c.self.inside.first c.self.inside.tied)
    ∙ ap (list_any (λ s. true)) c.self.view_is

pub returns-else-is_occupied : goal.returns-else-is_occupied
returns-else-is_occupied c =
    (λ i. (sym c.if-is_occupied.false ∙ c.is_occupied.ensures) i || c.is_occupied-else-is_occupied.ensures i)
    ∙ sym (list_any-append (λ s. true) c.self.inside.first c.self.inside.tied)
    ∙ ap (list_any (λ s. true)) c.self.view_is
