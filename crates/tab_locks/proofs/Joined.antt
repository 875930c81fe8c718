-- Two lists of locks as one.
use Rattle.std.proofs.Common.{List, ◌++◌, Bool, ◌||◌, ◌&&◌, not, sym, ◌∙◌}
use Rattle.std.proofs.Math.Bool.{or_assoc}
use Rattle.std.proofs.lemmas.List.Folds.{list_any-append}
use Rattle.std.specs.List.{list_any}
use Rattle.tab_locks.specs.Members.{HasMore, SameMembers, Drops}

module _ {X : Type 0} where
  pub more_before : (x : X) (a new b : List X) → HasMore x a new → HasMore x (a ++ b) (new ++ b)
  more_before x a new b h = λ p.
      list_any-append p new b ∙ (λ i. h p i || list_any p b) ∙ or_assoc (p x) (list_any p a) (list_any p b) ∙ (λ i. p x || sym (list_any-append p a b) i)

  pub same_before : (a new b : List X) → SameMembers a new → SameMembers (a ++ b) (new ++ b)
  same_before a new b h = λ p. list_any-append p new b ∙ (λ i. h p i || list_any p b) ∙ sym (list_any-append p a b)

  pub same_after : (a b new : List X) → SameMembers b new → SameMembers (a ++ b) (a ++ new)
  same_after a b new h = λ p. list_any-append p a new ∙ (λ i. list_any p a || h p i) ∙ sym (list_any-append p a b)

  pub dropped_joined : (gone : X → Bool) (a new b left : List X) → Drops gone a new → Drops gone b left → Drops gone (a ++ b) (new ++ left)
  dropped_joined gone a new b left h g = λ p. list_any-append p new left ∙ (λ i. h p i || g p i) ∙ sym (list_any-append (λ x. p x && not (gone x)) a b)
