-- Each move keeps the rule of the mailbox.
use Rattle.std.proofs.Common.{◌≡◌, ◌≢◌, ℕ, zero, suc, true, false, true≢false, List, [], ◌∷◌, ◌++◌, length, set, sym, refl, ap, ◌∙◌, subst, ⊎_elim, append_assoc}
use mathlib.Core.Option.{some, some-ne-none}
use lib.ListN.{get_elem?}
use Rattle.crossbeam_channel.specs.Fifo.{Pushes, Pops, Forks, Merges, Learns}
use Rattle.atomic_table.proofs.Lists.{at_set, at_snoc}
use Rattle.tab_model.specs.declared.data.Item.{Item}
use Rattle.tab_post.specs.declared.rule.PassView.{PassView}
use Rattle.tab_outbox.specs.Mailboxes.{StartsWith}
use Rattle.tab_post.specs.Rule.{pass_view, Knows, Relayed, EndsWith}

at_end : (l : List PassView) (a b : PassView) (j : ℕ) → get_elem? l j ≢ some b → get_elem? (l ++ a ∷ []) j ≡ some b → j ≡ length l
at_end [] a b zero n e = refl
at_end [] a b (suc j) n e = absurd (some-ne-none b (sym e))
at_end (x ∷ xs) a b zero n e = absurd (n e)
at_end (x ∷ xs) a b (suc j) n e = ap suc (at_end xs a b j n e)

abbrev All : (ℕ → PassView → Type 0) → List PassView → Type 0
All F views = (port : ℕ) (v : PassView) → get_elem? views port ≡ some v → F port v

all_set : (F : ℕ → PassView → Type 0) (views : List PassView) (port : ℕ) (w : PassView) → F port w → ((j : ℕ) (u : PassView) → j ≢ port → get_elem? views j ≡ some u → F j u) → All F (set views port w)
all_set F views port w mine others j u e = ⊎_elim (λ (x : (j ≡ port) × (w ≡ u)). subst (λ (y : ℕ × PassView). F y.0 y.1) (λ i. (sym x.0 i, x.1 i)) mine)
    (λ (x : (j ≢ port) × (get_elem? views j ≡ some u)). others j u x.0 x.1) (at_set views port j w u e)

pub begins : Relayed [] (pass_view true true [] [] ∷ [])
begins = (0, 0, [], [], refl, all_set (Knows 0 0 [] []) (pass_view true true [] [] ∷ []) 0 (pass_view true true [] []) ((λ _. (refl, refl)), λ _. (refl, refl)) (λ j u other e. absurd (other (at_end [] _ u j (λ x. some-ne-none u (sym x)) e))))

pub sends : (n port : ℕ) (v : PassView) (x : Item) → v.sends ≡ true → Pushes Relayed n port v x (λ w. w ≡ pass_view v.sends v.takes (v.sent ++ x ∷ []) v.taken)
sends n port v x may items views _ h at = let w : PassView = pass_view v.sends v.takes (v.sent ++ x ∷ []) v.taken in let mine = h.5 port v at in let sent = h.2 ++ x ∷ [] in (
  w,
  (
    h.0,
    h.1,
    sent,
    h.3,
    ap (λ l. l ++ x ∷ []) h.4 ∙ append_assoc h.3 items (x ∷ []),
    all_set (Knows h.0 h.1 sent h.3) views port w ((λ _. ((mine.0 may).0, ap (λ l. l ++ x ∷ []) (mine.0 may).1)), mine.1)
        (λ j u other e. ((λ p. absurd (other (((h.5 j u e).0 p).0 ∙ sym (mine.0 may).0))), (h.5 j u e).1)),
  ),
  refl,
)

-- a sender that finds the channel full knows that it holds the end of what was sent
pub fills : (port : ℕ) (v : PassView) → v.sends ≡ true → Learns Relayed port v (λ items. EndsWith v.sent items)
fills port v may items views h at = (h.3, ((h.5 port v at).0 may).1 ∙ h.4)

pub gets : (port : ℕ) (v : PassView) → v.takes ≡ true → Pops Relayed port v (λ x w. w ≡ pass_view v.sends v.takes v.sent (v.taken ++ x ∷ []))
gets port v may x items views h at = let w : PassView = pass_view v.sends v.takes v.sent (v.taken ++ x ∷ []) in let mine = h.5 port v at in let got = h.3 ++ x ∷ [] in (
  w,
  (
    h.0,
    h.1,
    h.2,
    got,
    h.4 ∙ sym (append_assoc h.3 (x ∷ []) items),
    all_set (Knows h.0 h.1 h.2 got) views port w (mine.0, λ _. ((mine.1 may).0, ap (λ l. l ++ x ∷ []) (mine.1 may).1))
        (λ j u other e. ((h.5 j u e).0, λ p. absurd (other (((h.5 j u e).1 p).0 ∙ sym (mine.1 may).0)))),
  ),
  refl,
)

-- a pass of both ends learns, at a receive, that what it has taken is a beginning of what was sent
pub meets : (port : ℕ) (v : PassView) → v.sends ≡ true → v.takes ≡ true
    → Pops Relayed port v (λ x w. (w ≡ pass_view v.sends v.takes v.sent (v.taken ++ x ∷ [])) × StartsWith v.sent (v.taken ++ x ∷ []))
meets port v may both x items views h at = let mine = h.5 port v at in let step = gets port v both x items views h at in (
  step.0,
  step.1,
  (step.2, (items, ((mine.0 may).1 ∙ h.4) ∙ (ap (λ l. l ++ (x ∷ items)) (sym (mine.1 both).1) ∙ sym (append_assoc v.taken (x ∷ []) items)))),
)

pub forks : (port : ℕ) (v : PassView) → v.sends ≡ true → v.takes ≡ true → Forks Relayed port v (pass_view true false v.sent []) (pass_view false true [] v.taken)
forks port v a b items views h at = let l : PassView = pass_view true false v.sent [] in let r : PassView = pass_view false true [] v.taken in let mine = h.5 port v at in let vs : List PassView = set views port l in
    let Old : ℕ → PassView → Type 0 = λ j u. (u.sends ≡ true → (j ≡ h.0) × (u.sent ≡ h.2)) × (u.takes ≢ true) in
    let old : All Old vs = all_set Old views port l ((λ _. mine.0 a), λ p. true≢false (sym p)) (λ j u other e. ((h.5 j u e).0, λ p. other (((h.5 j u e).1 p).0 ∙ sym (mine.1 b).0))) in (
      h.0,
      length vs,
      h.2,
      h.3,
      h.4,
      λ j u e. ⊎_elim (λ x. ((old j u x).0, λ p. absurd ((old j u x).1 p)))
          (λ (is : r ≡ u). ((λ p. absurd (true≢false (sym (ap (λ (y : PassView). y.sends) is ∙ p)))), λ p. (at_end vs r u j (λ x. (old j u x).1 p) e, ap (λ (y : PassView). y.taken) (sym is) ∙ (mine.1 b).1))) (at_snoc vs r u j e),
    )

-- a new pass that stands for no end
pub idles : (port : ℕ) (v : PassView) → Forks Relayed port v v (pass_view false false [] [])
idles port v items views h at = let r : PassView = pass_view false false [] [] in let vs : List PassView = set views port v in (
  h.0,
  h.1,
  h.2,
  h.3,
  h.4,
  λ j u e. ⊎_elim (λ x. all_set (Knows h.0 h.1 h.2 h.3) views port v (h.5 port v at) (λ k y _ f. h.5 k y f) j u x)
      (λ (is : r ≡ u). ((λ p. absurd (true≢false (sym (ap (λ (y : PassView). y.sends) is ∙ p)))), λ p. absurd (true≢false (sym (ap (λ (y : PassView). y.takes) is ∙ p))))) (at_snoc vs r u j e),
)

pub merges : (port : ℕ) (v : PassView) (other : ℕ) (u : PassView) → v.sends ≡ true → u.takes ≡ true → Merges Relayed port v other u (pass_view true true v.sent u.taken) (pass_view false false [] [])
merges port v other u a b items views h at two at' = let both : PassView = pass_view true true v.sent u.taken in let mine = h.5 port v at in let vs : List PassView = set views port both in
    let was : get_elem? views other ≡ some u = ⊎_elim (λ x. absurd (two x.0)) (λ x. x.1) (at_set views port other both u at') in let theirs = (h.5 other u was).1 b in
    let Now : ℕ → PassView → Type 0 = λ j y. j ≢ other → Knows h.0 port h.2 h.3 j y in
    let now : All Now vs = all_set Now views port both (λ _. ((λ _. mine.0 a), λ _. (refl, theirs.1))) (λ j y _ e apart. ((h.5 j y e).0, λ p. absurd (apart (((h.5 j y e).1 p).0 ∙ sym theirs.0)))) in
    (h.0, port, h.2, h.3, h.4, all_set (Knows h.0 port h.2 h.3) vs other (pass_view false false [] []) ((λ p. absurd (true≢false (sym p))), λ p. absurd (true≢false (sym p))) (λ j y apart e. now j y e apart))

pub totals : (port : ℕ) (v : PassView) → v.sends ≡ true → v.takes ≡ true → Learns Relayed port v (λ items. v.sent ≡ v.taken ++ items)
totals port v a b items views h at = let mine = h.5 port v at in (mine.0 a).1 ∙ h.4 ∙ ap (λ l. l ++ items) (sym (mine.1 b).1)
