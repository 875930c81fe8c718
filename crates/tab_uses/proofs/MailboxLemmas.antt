-- What a new mailbox with one item shows when its post and its other end meet.
use Rattle.std.proofs.Common.{◌≡◌, ◌⊎◌, ℕ, inl, inr, List, [], ◌∷◌, ◌++◌, refl, sym, ap, ◌∙◌, subst}
use Rattle.tab_model.specs.Outcome.{with_items}
use Rattle.tab_model.specs.declared.data.Item.{Item}
use Rattle.tab_outbox.specs.Mailboxes.{Tells}
use Rattle.tab_outbox.specs.declared.mailbox.Met.{Met}
use Rattle.tab_outbox.specs.declared.mailbox.Met.TheVariants.{Apart, Going, All}
use Rattle.tab_post.specs.Ends.{empty_outbox}

-- they are its two ends, and the item is left
pub is_left : (n : ℕ) (x : Item) (met : Met) (before after : List Item) → before ≡ [] → Tells (with_items (empty_outbox n) (x ∷ [])) n before met after → (met ≡ Apart) ⊎ (met ≡ All) → ⊥
is_left n x Apart before after none t is = t.0 refl
is_left n x (Going y) before after none t (inl is) = cc
is_left n x (Going y) before after none t (inr is) = cc
is_left n x All before after none t is = let one : [] ≡ x ∷ [] = sym none ∙ sym t.1.0 ∙ t.1.1 in cc

-- it is the item that is taken
pub is_taken : (n : ℕ) (x y : Item) (before after : List Item) → before ≡ [] → Tells (with_items (empty_outbox n) (x ∷ [])) n before (Going y) after → (y ≡ x) × (after ≡ x ∷ [])
is_taken n x y before after none t =
    let came : after ≡ y ∷ [] = t.1.0 ∙ ap (λ xs. xs ++ y ∷ []) none in
    let whole : x ∷ [] ≡ y ∷ t.1.1.0 = t.1.1.1 ∙ ap (λ xs. xs ++ t.1.1.0) came in
    let same : y ≡ x = cc in
    (same, came ∙ ap (λ z. z ∷ []) same)
