-- Updates in one list, with how many stood when each level began.
use Rattle.std.proofs.Common.{◌≡◌, ◌≤◌, ℕ, zero, suc, Bool, true, false, List, [], ◌∷◌, ◌++◌, Option, Some, refl, sym, ap, ◌∙◌, subst, take, drop, map, length, length-append, ◌+◌, arith}
use Rattle.std.proofs.lemmas.List.{take-append-le}
use Rattle.std.specs.Prelude.{if◌then◌else◌}
use Rattle.tab_model.specs.declared.data.Change.{Change}
use Rattle.tab_model.specs.declared.data.Move.{Move}
use Rattle.tab_model.specs.declared.data.Move.TheVariants.{Do, Open, Close, Undo}
use Rattle.tab_model.specs.declared.data.Reply.{Reply}
use Rattle.tab_model.specs.Operations.{change_of_op}
use Rattle.tab_model.specs.Events.{is_failure}
use Rattle.tab_journal.specs.Survivors.{Standing, standing, Falls, ended, changed, next, survivors_of}

pub falls_more : (n m : ℕ) (ns : List ℕ) → n ≤ m → Falls n ns → Falls m ns
falls_more n m [] k h = tt
falls_more n m (x ∷ ns) k h = (let l = h.0 in omega (arith, k, l), h.1)

pub falls_rest : (m : ℕ) (ns : List ℕ) → Falls m ns → Falls m (drop 1 ns)
falls_rest m [] h = tt
falls_rest m (n ∷ ns) h = falls_more n m ns h.0 h.1

take_of_take : (n m : ℕ) (cs : List Change) → n ≤ m → take n (take m cs) ≡ take n cs
take_of_take zero m cs h = refl
take_of_take (suc n) zero cs h = absurd (omega (arith, h))
take_of_take (suc n) (suc m) [] h = refl
take_of_take (suc n) (suc m) (c ∷ cs) h = ap (λ xs. c ∷ xs) (take_of_take n m cs (omega (arith, h)))

cut : (m : ℕ) (cs : List Change) (ns : List ℕ) → Falls m ns → map (λ n. take n (take m cs)) ns ≡ map (λ n. take n cs) ns
cut m cs [] h = refl
cut m cs (n ∷ ns) h = λ i. take_of_take n m cs h.0 i ∷ cut m cs ns (falls_more n m ns h.0 h.1) i

grown : (cs : List Change) (c : Change) (ns : List ℕ) → Falls (length cs) ns → map (λ n. take n (cs ++ c ∷ [])) ns ≡ map (λ n. take n cs) ns
grown cs c [] h = refl
grown cs c (n ∷ ns) h = λ i. take-append-le n cs (c ∷ []) h.0 i ∷ grown cs c ns (falls_more n (length cs) ns h.0 h.1) i

-- the innermost level ends
pub end_standing : (cs ds : List Change) (ns ms : List ℕ) (n : ℕ) → ns ≡ n ∷ ms → ds ≡ take n cs → Falls (length cs) ns → standing ds ms ≡ ended (standing cs ns)
end_standing cs ds ns ms n e d h =
    let f : (n ≤ length cs) × Falls n ms = subst (λ (xs : List ℕ). Falls (length cs) xs) e h in
    ap (λ xs. standing xs ms) d
    ∙ ap (λ ls. let s : Standing = record { now = take n cs; saved = ls } in s) (cut n cs ms f.1)
    ∙ sym (ap (λ xs. ended (standing cs xs)) e)

-- one update more
pub more_falls : (cs ds : List Change) (c : Change) (ns : List ℕ) → ds ≡ cs ++ c ∷ [] → Falls (length cs) ns → Falls (length ds) ns
more_falls cs ds c ns d h = falls_more (length cs) (length ds) ns (let l : length ds ≡ length cs + 1 = ap length d ∙ length-append cs (c ∷ []) in omega (arith, l)) h

pub more_standing : (cs ds : List Change) (c : Change) (ns : List ℕ) → ds ≡ cs ++ c ∷ [] → Falls (length cs) ns → standing ds ns ≡ changed (standing cs ns) (Some c)
more_standing cs ds c ns d h =
    ap (λ xs. standing xs ns) d
    ∙ ap (λ ls. let s : Standing = record { now = cs ++ c ∷ []; saved = ls } in s) (grown cs c ns h)

-- one move
pub follows : (s : Standing) (x : Move) (r : Option Reply) (xs : List Move) (rs : List (Option Reply)) → survivors_of s (x ∷ xs) (r ∷ rs) ≡ survivors_of (next s x r) xs rs
follows s (Do o) r xs rs = cases (is_failure r)
  where
    cases : (b : Bool) → (if b then survivors_of (ended s) xs rs else survivors_of (changed s (change_of_op o)) xs rs) ≡ survivors_of (if b then ended s else changed s (change_of_op o)) xs rs
    cases true = refl
    cases false = refl
follows s Open r xs rs = refl
follows s Close r xs rs = refl
follows s Undo r xs rs = refl

-- nothing was told of the moves that are left
pub none_told : (s : Standing) (xs : List Move) → survivors_of s xs [] ≡ s.now
none_told s [] = refl
none_told s (x ∷ xs) = refl

pub none_left : (s : Standing) (rs : List (Option Reply)) → survivors_of s [] rs ≡ s.now
none_left s [] = refl
none_left s (r ∷ rs) = refl
