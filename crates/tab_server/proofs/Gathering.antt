-- Items that are taken, one after another.
use Rattle.std.proofs.Common.{◌≡◌, ◌⊎◌, inl, inr, ℕ, List, [], ◌∷◌, ◌++◌, Option, Some, refl, sym, ap, ◌∙◌, append_assoc, append-nil, subst}
use Rattle.std.specs.Prelude.{Result, Ok, Err, OnOk, is_err, false}
use Rattle.tab_model.specs.declared.data.Item.{Item}
use Rattle.tab_proto.specs.declared.events.Delivery.{Delivery}
use Rattle.tab_proto.specs.Events.{sent_frames}
use Rattle.tab_server.specs.Gathered.{all_frames, Adds, Gathers, IsLeft}

pub frames_behind : (d : Delivery) (xs ys : List Item) → all_frames d (xs ++ ys) ≡ all_frames d xs ++ all_frames d ys
frames_behind d [] ys = refl
frames_behind d (x ∷ xs) ys = ap (λ r. sent_frames d x ++ r) (frames_behind d xs ys) ∙ sym (append_assoc (sent_frames d x) (all_frames d xs) (all_frames d ys))

-- what holds of an answer that is no error
pub of_ok : {A E P : Type 0} (r : Result A E) → false ≡ is_err r → OnOk r P → P
of_ok (Ok x) e p = p
of_ok (Err x) e p = cc

module _ (d : Delivery) where
  pub adds_none : (before after : List Item) (frames : List ℕ) → after ≡ before → Adds d before frames after frames
  adds_none before after frames same = record { items = []; taken = same ∙ sym (append-nil before); frames_are = sym (append-nil frames) }

  pub adds_one : (before after : List Item) (frames now : List ℕ) (x : Item) → after ≡ before ++ x ∷ [] → now ≡ frames ++ sent_frames d x → Adds d before frames after now
  adds_one before after frames now x taken is = record { items = x ∷ []; taken = taken; frames_are = is ∙ ap (λ r. frames ++ r) (sym (append-nil (sent_frames d x))) }

  pub adds_on : (a b c : List Item) (f g h : List ℕ) → Adds d a f b g → Adds d b g c h → Adds d a f c h
  adds_on a b c f g h k m = record {
    items = k.items ++ m.items;
    taken = m.taken ∙ ap (λ r. r ++ m.items) k.taken ∙ append_assoc a k.items m.items;
    frames_are = m.frames_are ∙ ap (λ r. r ++ all_frames d m.items) k.frames_are ∙ append_assoc f (all_frames d k.items) (all_frames d m.items) ∙ ap (λ r. f ++ r) (sym (frames_behind d k.items m.items));
  }

  pub gathers_all : (a b : List Item) (f g : List ℕ) (long aside : Option Item) → Adds d a f b g → aside ≡ long → Gathers d a f long b g aside
  gathers_all a b f g long aside k same = record {
    items = k.items;
    left = [];
    taken = k.taken ∙ ap (λ r. a ++ r) (sym (append-nil k.items));
    frames_are = k.frames_are;
    leaves = inl (refl, same);
  }

  pub gathers_on : (a b c : List Item) (f g h : List ℕ) (long mid aside : Option Item) → Adds d a f b g → mid ≡ long → Gathers d b g mid c h aside → Gathers d a f long c h aside
  gathers_on a b c f g h long mid aside k same m = record {
    items = k.items ++ m.items;
    left = m.left;
    taken = m.taken ∙ ap (λ r. r ++ (m.items ++ m.left)) k.taken ∙ append_assoc a k.items (m.items ++ m.left) ∙ ap (λ r. a ++ r) (sym (append_assoc k.items m.items m.left));
    frames_are = m.frames_are ∙ ap (λ r. r ++ all_frames d m.items) k.frames_are ∙ append_assoc f (all_frames d k.items) (all_frames d m.items) ∙ ap (λ r. f ++ r) (sym (frames_behind d k.items m.items));
    leaves = subst (λ l. IsLeft m.left l aside) same m.leaves;
  }

  -- one item, which is put aside
  pub gathers_long : (before after : List Item) (f : List ℕ) (long : Option Item) (x : Item) → after ≡ before ++ x ∷ [] → Gathers d before f long after f (Some x)
  gathers_long before after f long x taken = record { items = []; left = x ∷ []; taken = taken; frames_are = sym (append-nil f); leaves = inr (x, refl, refl) }
