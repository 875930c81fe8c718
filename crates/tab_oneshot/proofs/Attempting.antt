-- The loops over the parts and over the attempts.
use Rattle.std.proofs.Common.{◌≡◌, ℕ, zero, suc, ◌+◌, ◌<◌, ◌≤◌, List, [], ◌∷◌, ◌++◌, length, refl, sym, ap, subst, ◌∙◌, append_assoc, arith}
use Rattle.std.specs.Prelude.{Option, Some, None}
use Rattle.std.proofs.lemmas.List.{append-nil}
use Rattle.tab_term.specs.Data.{PlainTerms, none}
use Rattle.tab_model.specs.declared.data.Part.{Part}
use Rattle.tab_model.specs.declared.data.Part.TheVariants as part
use Rattle.tab_model.specs.declared.data.Reply.{Reply}
use Rattle.tab_model.specs.declared.data.Reply.TheVariants as reply
use Rattle.tab_oneshot.specs.Calls.{Call, Again}
use Rattle.tab_oneshot.specs.Attempts.{Turn, Serves, Goes, Commits, IsAttempt, Ends, passed}
use Rattle.tab_oneshot.specs.Attempts.{GoesOn as turned}
use Rattle.tab_oneshot.specs.OneShots.{IsTried, Runs}
use Rattle.tab_oneshot.proofs.HandingIn.{GoesOn}

-- a count of what is left, after one of them was taken
pub still_long : (old rest : List Part) (m n : ℕ) (p : Part) → m ≡ length old → old ≡ p ∷ rest → n + 1 ≡ m → n ≡ length rest
still_long old rest m n p e is gone = let long = ap length is in omega (arith, e, long, gone)

passed_below : (p : Part) (n : ℕ) → passed p n ≤ suc (suc n)
passed_below part.Open n = omega arith
passed_below part.Close n = omega arith
passed_below p n = omega arith

module _ {W : Type 0} (shows : W → List Call → W → Type 0) where
  -- the parts before the rest were run or left out
  pub record Going (x y : W) (parts rest : List Part) (first now : List PlainTerms) (skipped : ℕ) : Type 0 where
    pub done : List Call
    pub shown : shows x done y
    pub goes : (more : List Call) (e : Option Reply) → IsAttempt rest skipped now more e → IsAttempt parts 0 first (done ++ more) e
    pub below : skipped + length rest ≤ length parts

  pub going_first : (x : W) (parts rest : List Part) (now : List PlainTerms) → rest ≡ parts → shows x [] x → Going x x parts rest now now 0
  going_first x parts rest now e h =
      subst (λ (ps : List Part). Going x x parts ps now now 0) (sym e) (record { done = []; shown = h; goes = λ more e a. a; below = omega arith })

  -- before a part
  at_part : (parts old rest : List Part) (p : Part) (x y : W) (first now : List PlainTerms) (k : ℕ) → old ≡ p ∷ rest → Going x y parts old first now k → Going x y parts (p ∷ rest) first now k
  at_part parts old rest p x y first now k e g = subst (λ (ps : List Part). Going x y parts ps first now k) e g

  past : (x y : W) (parts rest : List Part) (first now : List PlainTerms) (n : ℕ) (p : Part) → Going x y parts (p ∷ rest) first now (suc n) → Going x y parts rest first now (passed p n)
  past x y parts rest first now n p g = record { done = g.done; shown = g.shown; goes = λ more o a. g.goes more o a; below = omega (arith, passed_below p n, g.below) }

  pub going_past : (x y : W) (parts old rest : List Part) (first now : List PlainTerms) (k n m : ℕ) (p : Part) → old ≡ p ∷ rest → k ≡ suc n → m ≡ passed p n
      → Going x y parts old first now k → Going x y parts rest first now m
  going_past x y parts old rest first now k n m p is e f g =
      subst (λ (j : ℕ). Going x y parts rest first now j) (sym f)
      (past x y parts rest first now n p (subst (λ (j : ℕ). Going x y parts (p ∷ rest) first now j) e (at_part parts old rest p x y first now k is g)))

  pub going_on : GoesOn shows → (x y z : W) (parts old rest : List Part) (first now later : List PlainTerms) (k m : ℕ) (p : Part) → old ≡ p ∷ rest → k ≡ 0 → m ≤ 1
      → Going x y parts old first now k → ((calls : List Call) × shows y calls z × Serves p now calls (turned m later)) → Going x z parts rest first later m
  going_on on x y z parts old rest first now later k m p is e b g (calls, s, a) = on_from (subst (λ (j : ℕ). Going x y parts (p ∷ rest) first now j) e (at_part parts old rest p x y first now k is g))
    where
      on_from : Going x y parts (p ∷ rest) first now 0 → Going x z parts rest first later m
      on_from g = record {
        done = g.done ++ calls;
        shown = on x y z g.done calls g.shown s;
        goes = λ more o r. subst (λ cs. IsAttempt parts 0 first cs o) (sym (append_assoc g.done calls more)) (g.goes (calls ++ more) o (calls, more, turned m later, refl, a, r));
        below = omega (arith, g.below, b);
      }

  pub going_over : GoesOn shows → (x y z : W) (parts old rest : List Part) (first now : List PlainTerms) (k : ℕ) (p : Part) (turn : Turn) (o : Option Reply) → old ≡ p ∷ rest → k ≡ 0
      → Goes (IsAttempt rest) turn [] o
      → Going x y parts old first now k → ((calls : List Call) × shows y calls z × Serves p now calls turn) → (all : List Call) × shows x all z × IsAttempt parts 0 first all o
  going_over on x y z parts old rest first now k p turn o is e r g (calls, s, a) = over_from (subst (λ (j : ℕ). Going x y parts (p ∷ rest) first now j) e (at_part parts old rest p x y first now k is g))
    where
      over_from : Going x y parts (p ∷ rest) first now 0 → (all : List Call) × shows x all z × IsAttempt parts 0 first all o
      over_from g = (g.done ++ calls, on x y z g.done calls g.shown s, g.goes calls o (calls, [], turn, sym (append-nil calls), a, r))

  pub going_done : GoesOn shows → (x y z : W) (parts old : List Part) (first now : List PlainTerms) (k : ℕ) (r : Reply) → length old ≡ 0
      → Going x y parts old first now k → ((calls : List Call) × shows y calls z × Commits now calls r) → (all : List Call) × shows x all z × IsAttempt parts 0 first all (Some r)
  going_done on x y z parts [] first now k r h g (calls, s, a) = (g.done ++ calls, on x y z g.done calls g.shown s, g.goes calls (Some r) (r, a, refl))
  going_done on x y z parts (p ∷ old) first now k r h g c = absurd (omega arith)

  -- some attempts were restarted
  pub record Trying (x y : W) (parts : List Part) (retries i : ℕ) : Type 0 where
    pub done : List Call
    pub shown : shows x done y
    pub left : ℕ
    pub count : i + left ≡ retries
    pub goes : (more : List Call) (r : Reply) → Runs parts left more r → Runs parts retries (done ++ more) r

  pub trying_first : (x : W) (parts : List Part) (retries : ℕ) → shows x [] x → Trying x x parts retries 0
  trying_first x parts retries h = record { done = []; shown = h; left = retries; count = omega arith; goes = λ more r a. a }

  pub trying_again : GoesOn shows → (x y z w : W) (parts : List Part) (retries i : ℕ) → i < retries → Trying x y parts retries i
      → ((calls : List Call) × shows y calls z × IsTried parts calls None) → shows z (Again ∷ []) w → Trying x w parts retries (i + 1)
  trying_again on x y z w parts retries i h t (calls, s, a) k = again t.left t.count t.goes
    where
      again : (left : ℕ) → i + left ≡ retries → ((more : List Call) (r : Reply) → Runs parts left more r → Runs parts retries (t.done ++ more) r) → Trying x w parts retries (i + 1)
      again zero e goes = absurd (omega arith)
      again (suc n) e goes = record {
        done = t.done ++ (calls ++ Again ∷ []);
        shown = on x y w t.done (calls ++ Again ∷ []) t.shown (on y z w calls (Again ∷ []) s k);
        left = n;
        count = omega arith;
        goes = λ more r b. subst (λ cs. Runs parts retries cs r) (ap (λ cs. t.done ++ cs) (sym (append_assoc calls (Again ∷ []) more)) ∙ sym (append_assoc t.done (calls ++ Again ∷ []) more))
            (goes (calls ++ Again ∷ more) r (calls, Again ∷ more, None, refl, a, (more, refl, b)));
      }

  runs_one : (parts : List Part) (left : ℕ) (calls : List Call) (r : Reply) → IsTried parts calls (Some r) → Runs parts left calls r
  runs_one parts zero calls r a = (calls, [], Some r, sym (append-nil calls), a, (refl, refl))
  runs_one parts (suc n) calls r a = (calls, [], Some r, sym (append-nil calls), a, (refl, refl))

  pub trying_over : GoesOn shows → (x y z : W) (parts : List Part) (retries i : ℕ) (r : Reply) → Trying x y parts retries i
      → ((calls : List Call) × shows y calls z × IsTried parts calls (Some r)) → (all : List Call) × shows x all z × Runs parts retries all r
  trying_over on x y z parts retries i r t (calls, s, a) = (t.done ++ calls, on x y z t.done calls t.shown s, t.goes calls r (runs_one parts t.left calls r a))

  pub trying_no_more : GoesOn shows → (x y z w : W) (parts : List Part) (retries i : ℕ) (r : Reply) → retries ≤ i → Trying x y parts retries i
      → ((calls : List Call) × shows y calls z × IsTried parts calls None) → ((more : List Call) × shows z more w × Ends 1 reply.NoMore more r)
      → (all : List Call) × shows x all w × Runs parts retries all r
  trying_no_more on x y z w parts retries i r h t (calls, s, a) (more, k, b) = last t.left t.count t.goes
    where
      last : (left : ℕ) → i + left ≡ retries → ((more : List Call) (r : Reply) → Runs parts left more r → Runs parts retries (t.done ++ more) r) → (all : List Call) × shows x all w × Runs parts retries all r
      last zero e goes = (t.done ++ (calls ++ more), on x y w t.done (calls ++ more) t.shown (on y z w calls more s k), goes (calls ++ more) r (calls, more, None, refl, a, b))
      last (suc n) e goes = absurd (omega arith)
