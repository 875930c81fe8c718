-- Lists of indexes: their positions, and what they are of.
use Rattle.std.proofs.Common.{◌≡◌, ◌≢◌, Bool, true, false, refl, ℕ, ◌+◌, ◌<◌, ◌≤◌, List, [], ◌∷◌, ◌++◌, length, take, drop, get_or, sym, ap, ◌∙◌, subst, append_assoc, arith, get_or-set_other, get_or-set_same, below_more}
use Rattle.std.proofs.Math.ListN.{set}
use Rattle.std.proofs.Math.Seq.{take-append_seam}
use Rattle.std.specs.Prelude.{if◌then◌else◌, eqb, nat_lt, Option, Some, None, IfSome}
use Rattle.std.proofs.lemmas.Bool.{eq-eqb, eqb-true}
use Rattle.std.proofs.lemmas.List.{at_drop_more, map-append, length-set, take-append-drop}
use Rattle.std.proofs.lemmas.List.Elements.{All-append, All-take, All-cons, All-drop}
use Rattle.tab_model.specs.Definitions.{add_number, less_number}
use Rattle.tab_model.specs.declared.data.TableDef.{TableDef}
use Rattle.tab_model.specs.Tables.{Rows, rows_after}
use Rattle.tab_index.specs.declared.index.Index.{Index}
use Rattle.tab_model.specs.declared.data.Kind.{Kind}
use Rattle.tab_index.specs.Indexed.{positions, IsOf, IsBare, IsIndexed, AreIndexesOf, Pending, LeadsTo}

-- one more index, for the next position
pub next_position : (indexes new : List Index) (x : Index) (ps : List ℕ) (i d : ℕ) (all : List ℕ) → i < length ps → x.position ≡ get_or ps i d → new ≡ indexes ++ x ∷ []
    → positions indexes ++ drop i ps ≡ all → positions new ++ drop (i + 1) ps ≡ all
next_position indexes new x ps i d all h is more before =
    ap (λ z. positions z ++ drop (i + 1) ps) more ∙ ap (λ z. z ++ drop (i + 1) ps) (map-append (λ j. j.position) indexes (x ∷ []))
    ∙ append_assoc (positions indexes) (x.position ∷ []) (drop (i + 1) ps)
    ∙ ap (λ z. positions indexes ++ (z ∷ drop (i + 1) ps)) is ∙ ap (λ z. positions indexes ++ z) (sym (at_drop_more (λ z. z) ps i d h)) ∙ before

-- ---- indexes that a loop changes, one after another

-- the first n are of these records
abbrev pub FirstAreOf : Rows → List Index → ℕ → Type 0
FirstAreOf rows xs n = (k : ℕ) (d : Index) → k < n → IsOf rows (get_or xs k d)

-- those from n on are
abbrev pub OthersAreOf : Rows → List Index → ℕ → Type 0
OthersAreOf rows xs n = (k : ℕ) (d : Index) → n ≤ k → k < length xs → IsOf rows (get_or xs k d)

pub one_done : (rows : Rows) (xs : List Index) (i : ℕ) (y : Index) → i < length xs → FirstAreOf rows xs i → IsOf rows y → FirstAreOf rows (set xs i y) (i + 1)
one_done rows xs i y h before here = λ k d l. all k l d
  where
    all : (k : ℕ) → k < i + 1 → (d : Index) → IsOf rows (get_or (set xs i y) k d)
    all = below_more _ _
        (λ k l. λ d. let other : k ≢ i = omega arith in subst (IsOf rows) (sym (get_or-set_other xs i k y d other)) (before k d l))
        (λ d. subst (IsOf rows) (sym (get_or-set_same xs i y d h)) here)

pub others_left : (rows : Rows) (xs : List Index) (i : ℕ) (y : Index) → OthersAreOf rows xs i → OthersAreOf rows (set xs i y) (i + 1)
others_left rows xs i y before = λ k d l h.
    let other : k ≢ i = omega arith in
    let less : k < length xs = omega (arith, length-set {A = Index}) in
    subst (IsOf rows) (sym (get_or-set_other xs i k y d other)) (before k d (omega arith) less)

-- all are changed, and the vector has them
pub all_done : (rows : Rows) (xs rest : List Index) (n i : ℕ) → n ≡ length xs → length xs ≤ i → FirstAreOf rows xs i → AreIndexesOf rows (take n (xs ++ rest))
all_done rows xs rest n i is h done = subst (AreIndexesOf rows) (sym (ap (λ m. take m (xs ++ rest)) is ∙ take-append_seam xs rest)) (λ k d l. done k d (omega arith))

-- ---- positions

pub number_there : (p q : ℕ) (ps : List ℕ) → q ≡ p → add_number p (q ∷ ps) ≡ q ∷ ps
number_there p q ps e = ap (λ b. if b then q ∷ ps else (if nat_lt p q then p ∷ q ∷ ps else q ∷ add_number p ps)) (eq-eqb p q (sym e))

-- the position is that of the next index
pub place_there : (p : ℕ) (xs : List Index) (n : ℕ) (x : Index) → n < length xs → x.position ≡ p → x ≡ get_or xs n x
    → add_number p (positions xs) ≡ positions (take n xs) ++ add_number p (positions (drop n xs)) → add_number p (positions xs) ≡ positions xs
place_there p xs n x h e is before =
    before
    ∙ ap (λ z. positions (take n xs) ++ z)
    (at_drop_more (λ ys. add_number p (positions ys)) xs n x h ∙ ap (λ y. add_number p (y.position ∷ positions (drop (n + 1) xs))) (sym is)
    ∙ number_there p x.position (positions (drop (n + 1) xs)) e ∙ ap (λ y. y.position ∷ positions (drop (n + 1) xs)) is ∙ sym (at_drop_more positions xs n x h))
    ∙ sym (map-append (λ j. j.position) (take n xs) (drop n xs)) ∙ ap positions (take-append-drop n xs)

number_other : (p q : ℕ) (ps : List ℕ) → (q ≡ p → ⊥) → less_number p (q ∷ ps) ≡ q ∷ less_number p ps
number_other p q ps n = cases (eqb p q) refl
  where
    cases : (b : Bool) → eqb p q ≡ b → (if b then less_number p ps else q ∷ less_number p ps) ≡ q ∷ less_number p ps
    cases true e = absurd (n (sym (eqb-true p q e)))
    cases false e = refl

-- one more of the indexes at other positions
pub other_kept : (p : ℕ) (xs others new : List Index) (i : ℕ) (x y : Index) (all : List ℕ) → i < length xs → x ≡ get_or xs i x → (x.position ≡ p → ⊥) → y ≡ x → new ≡ others ++ y ∷ []
    → positions others ++ less_number p (positions (drop i xs)) ≡ all → positions new ++ less_number p (positions (drop (i + 1) xs)) ≡ all
other_kept p xs others new i x y all h is n e more before =
    ap (λ z. positions z ++ rest) more ∙ ap (λ z. z ++ rest) (map-append (λ j. j.position) others (y ∷ []))
    ∙ append_assoc (positions others) (y.position ∷ []) rest
    ∙ ap (λ z. positions others ++ (z.position ∷ rest)) e
    ∙ ap (λ z. positions others ++ z) (sym (at_drop_more (λ ys. less_number p (positions ys)) xs i x h ∙ ap (λ z. less_number p (z.position ∷ positions (drop (i + 1) xs))) (sym is) ∙ number_other p x.position (positions (drop (i + 1) xs)) n))
    ∙ before
  where
    rest : List ℕ
    rest = less_number p (positions (drop (i + 1) xs))

-- an index put at a place
pub put_at : (rows : Rows) (xs : List Index) (n : ℕ) (y : Index) → AreIndexesOf rows xs → IsOf rows y → AreIndexesOf rows (take n xs ++ y ∷ drop n xs)
put_at rows xs n y h here = All-append (IsOf rows) (take n xs) (y ∷ drop n xs) (All-take (IsOf rows) n xs h) (All-cons (IsOf rows) y (drop n xs) here (All-drop (IsOf rows) n xs h))

-- ---- changes that indexes lack

-- they lead to the same records under another definition of the same type
pub leads_again : (def other : TableDef) (rows : Rows) (backlog : Option Pending) → other.kind ≡ def.kind → IfSome backlog (LeadsTo def rows) → IfSome backlog (LeadsTo other rows)
leads_again def other rows None same leads = tt
leads_again def other rows (Some b) same leads = record {
  bare = record { kind = leads.bare.kind ∙ sym same; ordered = leads.bare.ordered; apart = leads.bare.apart };
  after = ap (λ k. rows_after k b.0.1 b.1) same ∙ leads.after;
}

-- ---- parts of a table that are equal to those of one

pub bare_of : (def other : TableDef) (rows same : Kind × Rows) (indexes : List Index) (backlog : Option Pending) → IsIndexed def rows indexes backlog → other ≡ def → same ≡ rows → IsBare other same
bare_of def other rows same indexes backlog kept d r = subst (λ x. IsBare x same) (sym d) (subst (IsBare def) (sym r) (record { kind = kept.kind; ordered = kept.ordered; apart = kept.apart }))

pub leads_of : (def other : TableDef) (rows same : Kind × Rows) (indexes : List Index) (backlog copy : Option Pending) → IsIndexed def rows indexes backlog → other ≡ def → same ≡ rows → copy ≡ backlog
    → IfSome copy (LeadsTo other same.1)
leads_of def other rows same indexes backlog copy kept d r b =
    subst (λ o. IfSome o (LeadsTo other same.1)) (sym b) (subst (λ x. IfSome backlog (LeadsTo x same.1)) (sym d) (subst (λ (x : Kind × Rows). IfSome backlog (LeadsTo def x.1)) (sym r) kept.leads))

pub of_same : (rows same : Rows) (index : Index) → same ≡ rows → IsOf same index → IsOf rows index
of_same rows same index is here = subst (λ r. IsOf r index) is here
