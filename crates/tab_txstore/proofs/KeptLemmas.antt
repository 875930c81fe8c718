-- The kept levels after a push, a pop and a cut.
use Rattle.std.proofs.Common.{◌≡◌, ◌≤◌, ◌<◌, ℕ, Bool, true, false, Option, Some, None, zero, suc, List, [], ◌∷◌, ◌++◌, refl, sym, ap, ◌∙◌, subst, take, length, length-append, ◌+◌, arith}
use Rattle.std.proofs.lemmas.List.{take-append-le, length-take-le}
use Rattle.std.proofs.Math.Seq.{take-length}
use Rattle.std.specs.Prelude.{if◌then◌else◌}
use Rattle.tab_model.specs.declared.data.Change.{Change}
use Rattle.tab_model.specs.declared.data.Move.{Move}
use Rattle.tab_model.specs.declared.data.Move.TheVariants.{Do, Open, Close, Undo}
use Rattle.tab_model.specs.declared.data.Operation.{Operation}
use Rattle.tab_model.specs.declared.data.Reply.{Reply}
use Rattle.tab_model.specs.Events.{is_failure}
use Rattle.tab_model.specs.Operations.{change_of_op}
use Rattle.tab_model.specs.State.{count_moves}
use Rattle.tab_model.specs.Catalogs.{Table}
use Rattle.tab_txstore.specs.Overlays.{Overlay}
use Rattle.tab_txstore.specs.Stores.{Level, Levels, dropped, nested, joined, ended_to, ended, changed, levels_next}
use Rattle.tab_txstore.specs.Kept.{level, levels_onto, levels_of, Rises, IsCounted}
use Rattle.tab_txstore.specs.declared.levels.Saved.{Saved}

pub rises_most : (n : ℕ) (xs : List Saved) (m : ℕ) → Rises n xs m → n ≤ m
rises_most n [] m h = h
rises_most n (x ∷ xs) m h = let k : x.updates ≤ m = rises_most x.updates xs m h.1 in omega (arith, h.0)

pub rises_more : (n : ℕ) (xs : List Saved) (m m' : ℕ) → m ≤ m' → Rises n xs m → Rises n xs m'
rises_more n [] m m' k h = omega arith
rises_more n (x ∷ xs) m m' k h = (h.0, rises_more x.updates xs m m' k h.1)

pub rises_push : (n : ℕ) (xs : List Saved) (x : Saved) (m : ℕ) → x.updates ≡ m → Rises n xs m → Rises n (xs ++ x ∷ []) m
rises_push n [] x m e h = (omega arith, omega arith)
rises_push n (y ∷ xs) x m e h = (h.0, rises_push y.updates xs x m e h.1)

pub rises_pop : (n : ℕ) (xs : List Saved) (x : Saved) (m : ℕ) → Rises n (xs ++ x ∷ []) m → Rises n xs x.updates × (x.updates ≤ m)
rises_pop n [] x m h = (h.0, h.1)
rises_pop n (y ∷ xs) x m h = let p = rises_pop y.updates xs x m h.1 in ((h.0, p.0), p.1)

take_of_take : (n m : ℕ) (us : List Change) → n ≤ m → take n (take m us) ≡ take n us
take_of_take zero m us h = refl
take_of_take (suc n) zero us h = absurd (omega arith)
take_of_take (suc n) (suc m) [] h = refl
take_of_take (suc n) (suc m) (u ∷ us) h = ap (λ xs. u ∷ xs) (take_of_take n m us (omega arith))

same_level : (us vs : List Change) (x : Saved) → take x.updates us ≡ take x.updates vs → level us x ≡ level vs x
same_level us vs x h = λ i. record { overlay = x.overlay; updates = h i }

-- one update more
pub levels_more : (n : ℕ) (us : List Change) (u : Change) (done : List Level) (xs : List Saved) → Rises n xs (length us) → levels_onto (us ++ u ∷ []) done xs ≡ levels_onto us done xs
levels_more n us u done [] h = refl
levels_more n us u done (x ∷ xs) h =
    ap (λ l. levels_onto (us ++ u ∷ []) (l ∷ done) xs) (same_level (us ++ u ∷ []) us x (take-append-le x.updates us (u ∷ []) (rises_most x.updates xs (length us) h.1)))
    ∙ levels_more x.updates us u (level us x ∷ done) xs h.1

-- back to the first m
pub levels_cut : (n : ℕ) (us : List Change) (m : ℕ) (done : List Level) (xs : List Saved) → Rises n xs m → levels_onto (take m us) done xs ≡ levels_onto us done xs
levels_cut n us m done [] h = refl
levels_cut n us m done (x ∷ xs) h =
    ap (λ l. levels_onto (take m us) (l ∷ done) xs) (same_level (take m us) us x (take_of_take x.updates m us (rises_most x.updates xs m h.1)))
    ∙ levels_cut x.updates us m (level us x ∷ done) xs h.1

pub levels_push : (us : List Change) (done : List Level) (xs : List Saved) (x : Saved) → levels_onto us done (xs ++ x ∷ []) ≡ level us x ∷ levels_onto us done xs
levels_push us done [] x = refl
levels_push us done (y ∷ xs) x = levels_push us (level us y ∷ done) xs x

-- ---- what the functions meet

pub push_rises : (us : List Change) (xs ys : List Saved) (x : Saved) → ys ≡ xs ++ x ∷ [] → x.updates ≡ length us → Rises 0 xs (length us) → Rises 0 ys (length us)
push_rises us xs ys x e h r = subst (λ (zs : List Saved). Rises 0 zs (length us)) (sym e) (rises_push 0 xs x (length us) h r)

pub push_levels : (v : Overlay) (us : List Change) (xs ys : List Saved) (x : Saved) → ys ≡ xs ++ x ∷ [] → x.overlay ≡ v → x.updates ≡ length us → levels_of v us ys ≡ nested (levels_of v us xs)
push_levels v us xs ys x e o h = ap (levels_of v us) e ∙ ap (λ ls. let l : Levels = record { now = record { overlay = v; updates = us }; saved = ls } in l) (levels_push us [] xs x ∙ ap (λ z. z ∷ levels_onto us [] xs) begun)
  where
    begun : level us x ≡ record { overlay = v; updates = us }
    begun = λ i. record { overlay = o i; updates = (ap (λ n. take n us) h ∙ take-length us) i }

pub commit_rises : (us : List Change) (xs ys : List Saved) (x : Saved) → xs ≡ ys ++ x ∷ [] → Rises 0 xs (length us) → Rises 0 ys (length us)
commit_rises us xs ys x e r = let p = rises_pop 0 ys x (length us) (subst (λ (zs : List Saved). Rises 0 zs (length us)) e r) in rises_more 0 ys x.updates (length us) p.1 p.0

pub commit_levels : (v : Overlay) (us : List Change) (xs ys : List Saved) (x : Saved) → xs ≡ ys ++ x ∷ [] → levels_of v us ys ≡ joined (levels_of v us xs)
commit_levels v us xs ys x e = sym (ap (λ zs. joined (levels_of v us zs)) e ∙ ap (λ ls. let l : Levels = record { now = record { overlay = v; updates = us }; saved = dropped ls } in l) (levels_push us [] ys x))

pub abort_rises : (us vs : List Change) (xs ys : List Saved) (x : Saved) → xs ≡ ys ++ x ∷ [] → vs ≡ take x.updates us → Rises 0 xs (length us) → Rises 0 ys (length vs)
abort_rises us vs xs ys x e h r =
    let p = rises_pop 0 ys x (length us) (subst (λ (zs : List Saved). Rises 0 zs (length us)) e r) in
    subst (λ (n : ℕ). Rises 0 ys n) (sym (ap length h ∙ length-take-le x.updates us p.1)) p.0

pub abort_levels : (v : Overlay) (us vs : List Change) (xs ys : List Saved) (x : Saved) → xs ≡ ys ++ x ∷ [] → vs ≡ take x.updates us → Rises 0 xs (length us) → levels_of x.overlay vs ys ≡ ended (levels_of v us xs)
abort_levels v us vs xs ys x e h r =
    let p = rises_pop 0 ys x (length us) (subst (λ (zs : List Saved). Rises 0 zs (length us)) e r) in
    ap (λ zs. levels_of x.overlay zs ys) h
    ∙ ap (λ ls. let l : Levels = record { now = record { overlay = x.overlay; updates = take x.updates us }; saved = ls } in l) (levels_cut 0 us x.updates [] ys p.0)
    ∙ sym (ap (λ zs. ended (levels_of v us zs)) e ∙ ap ended_to (levels_push us [] ys x))

pub touch_rises : (us vs : List Change) (u : Change) (xs : List Saved) → vs ≡ us ++ u ∷ [] → Rises 0 xs (length us) → Rises 0 xs (length vs)
touch_rises us vs u xs e r = rises_more 0 xs (length us) (length vs) (let h : length vs ≡ length us + 1 = ap length e ∙ length-append us (u ∷ []) in omega arith) r

pub touch_levels : (v : Overlay) (us vs : List Change) (u : Change) (xs : List Saved) → vs ≡ us ++ u ∷ [] → Rises 0 xs (length us)
    → levels_of v vs xs ≡ record { now = record { overlay = v; updates = us ++ u ∷ [] }; saved = levels_onto us [] xs }
touch_levels v us vs u xs e r = ap (λ zs. levels_of v zs xs) e ∙ ap (λ ls. let l : Levels = record { now = record { overlay = v; updates = us ++ u ∷ [] }; saved = ls } in l) (levels_more 0 us u [] xs r)

-- ---- how many levels are open

depth_onto : (us : List Change) (done : List Level) (xs : List Saved) → length (levels_onto us done xs) ≡ length xs + length done
depth_onto us done [] = omega arith
depth_onto us done (x ∷ xs) = let h : length (levels_onto us (level us x ∷ done) xs) ≡ length xs + suc (length done) = depth_onto us (level us x ∷ done) xs in omega (arith, h)

pub depth_of : (us : List Change) (xs : List Saved) → length xs ≡ length (levels_onto us [] xs)
depth_of us xs = let h : length (levels_onto us [] xs) ≡ length xs + 0 = depth_onto us [] xs in omega (arith, h)

pub ended_less : (l k : Levels) → k ≡ ended l → 0 < length l.saved → length k.saved + 1 ≤ length l.saved
ended_less l k e h = cases l.saved (ap (λ (z : Levels). length z.saved) e) h
  where
    cases : (ls : List Level) → length k.saved ≡ length (ended_to ls).saved → 0 < length ls → length k.saved + 1 ≤ length ls
    cases [] q h = absurd (omega (arith, h))
    cases (x ∷ ls) q h = let p : length k.saved ≡ length ls = q in omega (arith, p)

pub joined_less : (l k : Levels) → k ≡ joined l → 0 < length l.saved → length k.saved + 1 ≤ length l.saved
joined_less l k e h = cases l.saved (ap (λ (z : Levels). length z.saved) e) h
  where
    cases : (ls : List Level) → length k.saved ≡ length (dropped ls) → 0 < length ls → length k.saved + 1 ≤ length ls
    cases [] q h = absurd (omega (arith, h))
    cases (x ∷ ls) q h = let p : length k.saved ≡ length ls = q in omega (arith, p)

ended_most : (ls : List Level) → length (ended_to ls).saved ≤ length ls
ended_most [] = omega arith
ended_most (x ∷ ls) = omega arith

pub ended_no_more : (l k : Levels) → k ≡ ended l → length k.saved + 1 ≤ length l.saved + 1
ended_no_more l k e = let p : length k.saved ≡ length (ended l).saved = ap (λ (z : Levels). length z.saved) e in let q : length (ended l).saved ≤ length l.saved = ended_most l.saved in omega (arith, p, q)

pub next_no_more : (x : Table) (l k : Levels) (o : Operation) (r : Reply) → k ≡ levels_next (Some x) l (Do o) (Some r) → length k.saved + 1 ≤ length l.saved + 1
next_no_more x l k o r e =
    let p : length k.saved ≡ length (levels_next (Some x) l (Do o) (Some r)).saved = ap (λ (z : Levels). length z.saved) e in
    let q : length (levels_next (Some x) l (Do o) (Some r)).saved ≤ length l.saved = cases (is_failure (Some r)) (change_of_op o) in
    omega (arith, p, q)
  where
    cases : (b : Bool) (h : Option Change) → length (if b then ended l else changed (Some x) l h).saved ≤ length l.saved
    cases true h = ended_most l.saved
    cases false None = omega arith
    cases false (Some c) = omega arith

pub nested_one : (l k : Levels) → k ≡ nested l → length k.saved + 1 ≤ length l.saved + 2
nested_one l k e = let p : length k.saved ≡ suc (length l.saved) = ap (λ (z : Levels). length z.saved) e in omega (arith, p)

-- the ends of the open levels have their places
pub room : (len len' cap cap' q d d' m : ℕ) → q ≡ d → len + q + m ≤ cap → d' + 1 ≤ d + m → len' ≡ len + 1 → cap ≤ cap' → len' + d' ≤ cap'
room len len' cap cap' q d d' m e h k l c = omega (arith, e, h, k, l, c)

pub room_kept : (len len' cap cap' d d' : ℕ) → len + d ≤ cap → d' + 1 ≤ d → len' ≡ len + 1 → cap ≤ cap' → len' + d' ≤ cap'
room_kept len len' cap cap' d d' h k l c = omega (arith, h, k, l, c)

-- ---- the moves that count

count_push : (xs : List Move) (x : Move) → count_moves (xs ++ x ∷ []) ≡ count_moves xs + count_moves (x ∷ [])
count_push [] x = omega arith
count_push (Do o ∷ xs) x = let h = count_push xs x in omega (arith, h)
count_push (Open ∷ xs) x = let h = count_push xs x in omega (arith, h)
count_push (Close ∷ xs) x = count_push xs x
count_push (Undo ∷ xs) x = count_push xs x

pushed_length : (xs ys : List Move) (x : Move) → ys ≡ xs ++ x ∷ [] → length ys ≡ length xs + 1
pushed_length xs ys x e = ap length e ∙ length-append xs (x ∷ [])

pub counted_one : (xs ms ys : List Move) (x : Move) (n : ℕ) → ms ≡ xs → ys ≡ ms ++ x ∷ [] → count_moves (x ∷ []) ≡ 1 → IsCounted xs n → IsCounted ys (n + 1)
counted_one xs ms ys x n m u one h = let e : ys ≡ xs ++ x ∷ [] = u ∙ ap (λ z. z ++ x ∷ []) m in record {
  count = ap (λ z. z + 1) h.count ∙ sym (ap count_moves e ∙ count_push xs x ∙ ap (λ z. count_moves xs + z) one);
  fits = let l = pushed_length xs ys x e in let f = h.fits in omega (arith, l, f);
}

pub counted_none : (xs ys : List Move) (x : Move) (n : ℕ) → ys ≡ xs ++ x ∷ [] → count_moves (x ∷ []) ≡ 0 → IsCounted xs n → IsCounted ys n
counted_none xs ys x n e none h = record {
  count = let k : count_moves ys ≡ count_moves xs + 0 = ap count_moves e ∙ count_push xs x ∙ ap (λ z. count_moves xs + z) none in let c = h.count in omega (arith, k, c);
  fits = let l = pushed_length xs ys x e in let f = h.fits in omega (arith, l, f);
}
