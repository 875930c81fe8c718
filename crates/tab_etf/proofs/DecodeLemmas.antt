-- The laws of whole payloads.
use Rattle.std.proofs.Common.{◌≡◌, ℕ, suc, ◌+◌, ◌≤◌, max, cond, List, [], ◌∷◌, ◌++◌, length, Result, Ok, Err, refl, sym, ap, subst, ◌∙◌, arith, eqb, inl, inr}
use Rattle.std.proofs.lemmas.Bool.{eqb-true}
use Rattle.std.proofs.lemmas.List.{append-nil, nil_from_length, append_cancel_right}
use Rattle.tab_term.specs.Data.{PlainTerm, depth}
use Rattle.tab_etf.specs.declared.fault.Fault.TheVariants.{Trailing, Version}
use Rattle.tab_etf.specs.Spells.{Spells}
use Rattle.std.specs.Prelude.{IfOk}
use Rattle.tab_term.specs.declared.term.Term.{Term}
use Rattle.tab_term.specs.View.{term}
use Rattle.tab_etf.specs.declared.fault.EtfFault.{EtfFault}
use Rattle.tab_etf.specs.Reading.{Decodes, ◌>>=◌, stop, term_at, whole}
use Rattle.tab_etf.proofs.Fields.{IsBytes, IsBytes-rest, bind_ok, chosen, done, ok_is}
use Rattle.tab_etf.proofs.SpellsFound.{sound}
use Rattle.tab_etf.proofs.SpellsRead.{again}

-- what is read is spelled so
pub found : (p : List ℕ) (t : PlainTerm) → IsBytes p → whole p ≡ Ok t → (b : List ℕ) × (p ≡ 131 ∷ b) × Spells t b × (depth t ≤ 64)
unfolding whole
found [] t fits e = absurd cc
found (v ∷ bytes) t fits e =
    elim (chosen (eqb v 131) (term_at 64 bytes >>= λ x. cond (eqb (length x.1) 0) (Ok x.0) (stop Trailing (length x.1))) (stop Version (length bytes + 1)) (done t) e) [
      | inl here ↦
          let a = bind_ok (term_at 64 bytes) (λ x. cond (eqb (length x.1) 0) (Ok x.0) (stop Trailing (length x.1))) t here.1 in
          let s = sound 64 bytes a.0 (IsBytes-rest v bytes fits) a.1 in
          elim (chosen (eqb (length a.0.1) 0) (done a.0.0) (stop Trailing (length a.0.1)) (done t) a.2) [
            | inl last ↦
                let nothing : a.0.1 ≡ [] = nil_from_length a.0.1 (eqb-true _ _ last.0) in
                let all : v ∷ bytes ≡ 131 ∷ s.text = ap (λ n. n ∷ bytes) (eqb-true v 131 here.0) ∙ ap (λ (b : List ℕ). 131 ∷ b) (s.takes.parts ∙ ap (λ (r : List ℕ). s.text ++ r) nothing ∙ append-nil s.text) in
                subst (λ (u : PlainTerm). (b : List ℕ) × (v ∷ bytes ≡ 131 ∷ b) × Spells u b × (depth u ≤ 64)) (ok_is a.0.0 t last.1) (s.text, all, s.spells, s.within)
            | inr more ↦ absurd (let h = more.1 in cc)
          ]
      | inr other ↦ absurd (let h = other.1 in cc)
    ]

-- what is spelled so is read
pub only : (t : PlainTerm) (b : List ℕ) → Spells t b → depth t ≤ 64 → whole (131 ∷ b) ≡ Ok t
unfolding whole
only t b s d =
    let e : term_at 64 b ≡ Ok (t, []) = ap (term_at 64) (sym (append-nil b)) ∙ again s 63 [] d in
    rw e refl

-- no spelling begins another
pub apart : (s t : PlainTerm) (a b x y : List ℕ) → Spells s a → Spells t b → a ++ x ≡ b ++ y → (a ≡ b) × (s ≡ t)
apart s t a b x y p q e =
    let l = max (depth s) (depth t) in
    let one : term_at (suc l) (a ++ x) ≡ Ok (s, x) = again p l x (omega arith) in
    let two : term_at (suc l) (b ++ y) ≡ Ok (t, y) = again q l y (omega arith) in
    let f : PlainTerm × List ℕ = (s, x) in
    let g : PlainTerm × List ℕ = (t, y) in
    let same : f ≡ g = ok_is f g (sym one ∙ ap (term_at (suc l)) e ∙ two) in
    (append_cancel_right a b x (e ∙ ap (λ (z : PlainTerm × List ℕ). b ++ z.1) (sym same)), ap (λ (z : PlainTerm × List ℕ). z.0) same)

pub is_found : (p : List ℕ) (r : Result Term EtfFault) → IsBytes p → Decodes term (length p) r (whole p) → IfOk r (λ t. (b : List ℕ) × (p ≡ 131 ∷ b) × Spells (term t) b × (depth (term t) ≤ 64))
is_found p (Ok t) fits given = found p (term t) fits given
is_found p (Err e) fits given = tt
