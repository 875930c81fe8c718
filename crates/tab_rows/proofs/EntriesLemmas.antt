-- Records of which there is one.
use Rattle.std.proofs.Common.{◌≡◌, [], ◌∷◌, ap, ◌∙◌, arith}
use Rattle.tab_term.specs.Data.{PlainTerm, PlainTerms, none, one_more, count}
use Rattle.tab_model.specs.Names.{terms_list}
use Rattle.tab_term.specs.declared.term.Term.{Term}
use Rattle.tab_term.specs.View.{term}
use Rattle.tab_lists.specs.ByKey.{Entry}
use Rattle.tab_records.specs.Forms.{first_of}
use Rattle.tab_model.proofs.ShapeLaws.{term_held, held_term}
use Rattle.tab_model.specs.OnlyRecords.{first_record, record_in}

pub only_first : (ts : PlainTerms) (x : PlainTerm) → first_of ts ≡ x ∷ [] → count ts ≡ 1 → terms_list ts ≡ x ∷ []
only_first none x h one = absurd (omega (arith, one))
only_first (one_more t none) x h one = h
only_first (one_more t (one_more u us)) x h one = absurd (omega (arith, one))

-- the record that an entry has alone
pub record_only : (e : Entry) (r : PlainTerm) → terms_list e.1 ≡ r ∷ [] → term (record_in e) ≡ r
record_only e r h = ap (λ xs. term (first_record xs)) h ∙ term_held r

pub row_only : (e : Entry) (r : Term) → terms_list e.1 ≡ term r ∷ [] → record_in e ≡ r
row_only e r h = ap first_record h ∙ held_term r
