-- Lists of terms that are shared.
use Rattle.std.proofs.Common.{◌≡◌, ◌<◌, ℕ, zero, suc, get_or, arith, List, [], ◌∷◌, ◌++◌, length, append-nil, append_assoc, refl, sym, ap, ◌∙◌}
use Rattle.tab_term.specs.declared.term.Term.{Term}
use Rattle.tab_term.specs.Data.{PlainTerm, PlainTerms, none, one_more, plain_terms, terms_list}
use Rattle.tab_term.specs.View.{term, terms}

pub plain-list : (ts : PlainTerms) → plain_terms (terms_list ts) ≡ ts
plain-list none = refl
plain-list (one_more t ts) = ap (one_more t) (plain-list ts)

pub list-plain : (ts : List PlainTerm) → terms_list (plain_terms ts) ≡ ts
list-plain [] = refl
list-plain (t ∷ ts) = ap (λ us. t ∷ us) (list-plain ts)

pub list_push : (ts : List Term) (t : Term) → terms_list (terms (ts ++ t ∷ [])) ≡ terms_list (terms ts) ++ term t ∷ []
list_push [] t = refl
list_push (u ∷ us) t = ap (λ ts. term u ∷ ts) (list_push us t)

-- one more is copied of what is left
pub copy_step : (ts us : List Term) (t : Term) (x : PlainTerm) (before after whole : List PlainTerm) → us ≡ ts ++ t ∷ [] → term t ≡ x → before ≡ x ∷ after
    → terms_list (terms ts) ++ before ≡ whole → terms_list (terms us) ++ after ≡ whole
copy_step ts us t x before after whole p e b h =
    ap (λ us. terms_list (terms us) ++ after) p ∙ ap (λ xs. xs ++ after) (list_push ts t) ∙ append_assoc (terms_list (terms ts)) (term t ∷ []) after
    ∙ ap (λ y. terms_list (terms ts) ++ y ∷ after) e ∙ ap (λ xs. terms_list (terms ts) ++ xs) (sym b) ∙ h

-- nothing is left to copy
pub copy_end : (ts : List Term) (left : List PlainTerm) (whole : PlainTerms) → left ≡ [] → terms_list (terms ts) ++ left ≡ terms_list whole → terms ts ≡ whole
copy_end ts left whole e h =
    sym (plain-list (terms ts)) ∙ ap plain_terms (sym (append-nil (terms_list (terms ts))) ∙ ap (λ xs. terms_list (terms ts) ++ xs) (sym e) ∙ h) ∙ plain-list whole

-- a value at a place is the term there
pub term_at : (ts : List Term) (n : ℕ) (t : Term) (d : PlainTerm) → n < length ts → t ≡ get_or ts n t → term t ≡ get_or (terms_list (terms ts)) n d
term_at [] n t d h e = absurd (omega (arith, h))
term_at (u ∷ us) zero t d h e = ap term e
term_at (u ∷ us) (suc n) t d h e = term_at us n t d (omega (arith, h)) e
