-- One more element of a list is written.
use Rattle.std.proofs.Common.{◌≡◌, ℕ, ◌+◌, ◌<◌, List, [], ◌∷◌, ◌++◌, length, take, drop, get_or, refl, sym, ap, ◌∙◌, append_assoc, true, ◌&&◌}
use Rattle.std.proofs.lemmas.Bool.{and_parts}
use Rattle.std.proofs.lemmas.List.{take_more, append-nil, at_drop_more}
use Rattle.tab_term.specs.declared.term.Term.{Term}
use Rattle.tab_term.specs.Data.{none, no_pair}
use Rattle.tab_term.specs.Canon.{is_byte_term, byte_of, all_bytes, bytes_of, canon, canons, pair_canons}
use Rattle.tab_term.specs.View.{term, terms, pairs}

canons-push : (ts : List Term) (t : Term) → canons (terms (ts ++ t ∷ [])) ≡ canons (terms ts) ++ canon (term t)
unfolding canon
canons-push [] t = append-nil (canon (term t))
canons-push (u ∷ us) t = ap (λ (r : List ℕ). canon (term u) ++ r) (canons-push us t) ∙ sym (append_assoc (canon (term u)) (canons (terms us)) (canon (term t)))

pub canons_next : (ts : List Term) (i : ℕ) (t : Term) → i < length ts → t ≡ get_or ts i t → canons (terms (take (i + 1) ts)) ≡ canons (terms (take i ts)) ++ canon (term t)
canons_next ts i t lt e = ap (λ us. canons (terms us)) (take_more ts i t lt) ∙ canons-push (take i ts) (get_or ts i t) ∙ ap (λ u. canons (terms (take i ts)) ++ canon (term u)) (sym e)

bytes-push : (ts : List Term) (t : Term) → bytes_of (terms (ts ++ t ∷ [])) ≡ bytes_of (terms ts) ++ byte_of (term t) ∷ []
bytes-push [] t = refl
bytes-push (u ∷ us) t = ap (λ (r : List ℕ). byte_of (term u) ∷ r) (bytes-push us t)

pub bytes_next : (ts : List Term) (i : ℕ) (t : Term) (b : ℕ) → i < length ts → t ≡ get_or ts i t → b ≡ byte_of (term t) → bytes_of (terms (take (i + 1) ts)) ≡ bytes_of (terms (take i ts)) ++ b ∷ []
bytes_next ts i t b lt e f = ap (λ us. bytes_of (terms us)) (take_more ts i t lt) ∙ bytes-push (take i ts) (get_or ts i t) ∙ ap (λ c. bytes_of (terms (take i ts)) ++ c ∷ []) (ap (λ u. byte_of (term u)) (sym e) ∙ sym f)

pub all_bytes_at : (ts : List Term) (i : ℕ) (t : Term) → i < length ts → t ≡ get_or ts i t → all_bytes (terms (drop i ts)) ≡ true → (is_byte_term (term t) ≡ true) × (all_bytes (terms (drop (i + 1) ts)) ≡ true)
all_bytes_at ts i t lt e h =
    and_parts (is_byte_term (term t)) (all_bytes (terms (drop (i + 1) ts)))
    (ap (λ u. is_byte_term (term u) && all_bytes (terms (drop (i + 1) ts))) e ∙ sym (at_drop_more (λ us. all_bytes (terms us)) ts i t lt) ∙ h)

pub no_canons : [] ≡ canons none
unfolding canon
no_canons = refl

pub no_pair_canons : [] ≡ pair_canons no_pair
unfolding canon
no_pair_canons = refl

pairs-push : (ps : List (Term × Term)) (p : Term × Term) → pair_canons (pairs (ps ++ p ∷ [])) ≡ (pair_canons (pairs ps) ++ canon (term p.0)) ++ canon (term p.1)
unfolding canon
pairs-push [] p = append-nil (canon (term p.0) ++ canon (term p.1))
pairs-push (q ∷ qs) p =
    let a = canon (term q.0) in
    let b = canon (term q.1) in
    let r = pair_canons (pairs qs) in
    let k = canon (term p.0) in
    let x = canon (term p.1) in
    ap (λ (s : List ℕ). (a ++ b) ++ s) (pairs-push qs p) ∙ sym (append_assoc (a ++ b) (r ++ k) x) ∙ ap (λ (s : List ℕ). s ++ x) (sym (append_assoc (a ++ b) r k))

pub pairs_next : (ps : List (Term × Term)) (i : ℕ) (p : Term × Term) → i < length ps → p ≡ get_or ps i p → pair_canons (pairs (take (i + 1) ps)) ≡ (pair_canons (pairs (take i ps)) ++ canon (term p.0)) ++ canon (term p.1)
pairs_next ps i p lt e = ap (λ qs. pair_canons (pairs qs)) (take_more ps i p lt) ∙ pairs-push (take i ps) (get_or ps i p) ∙ ap (λ (q : Term × Term). (pair_canons (pairs (take i ps)) ++ canon (term q.0)) ++ canon (term q.1)) (sym e)
