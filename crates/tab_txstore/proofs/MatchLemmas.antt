-- The records that match, along the merged walk.
use Rattle.std.proofs.Common.{◌≡◌, [], ◌∷◌, ◌++◌, Bool, true, false, subst, refl, sym, ap, ◌∙◌}
use Rattle.std.specs.Prelude.{if◌then◌else◌}
use Rattle.tab_term.specs.Data.{PlainTerm}
use Rattle.tab_term.specs.Order.{term_cmp}
use Rattle.tab_map.specs.Entries.{Ascends}
use Rattle.tab_model.specs.Names.{terms_list}
use Rattle.tab_model.specs.Tables.{Rows}
use Rattle.std.proofs.Common.{Some}
use Rattle.tab_model.specs.WholeTables.{match_object}
use Rattle.tab_index.specs.BoundKey.{bound_key}
use Rattle.tab_index.proofs.BoundKeyLemmas.{at_bound_key}
use Rattle.tab_rows.specs.Joined.{joined, IsInOrder}
use Rattle.tab_txstore.specs.Overlays.{Touched, seen_at}
use Rattle.tab_txstore.specs.Merged.{merged, is_filled, IsSeen}
use Rattle.tab_txstore.proofs.MergedLemmas.{filled, seen_merged, not_filled}

pub joined_filled : (es : Touched) → joined (filled es) ≡ joined es
joined_filled [] = refl
joined_filled (e ∷ es) = cases (joined_filled es) (is_filled e.1) refl
  where
    cases : joined (filled es) ≡ joined es → (b : Bool) → is_filled e.1 ≡ b → joined (if b then e ∷ filled es else filled es) ≡ terms_list e.1 ++ joined es
    cases ih true h = ap (λ z. terms_list e.1 ++ z) ih
    cases ih false h = ih ∙ sym (ap (λ z. z ++ joined es) (not_filled e.1 h))

-- a walk with the touched keys among it has what the transaction sees
pub whole_seen : (whole xs es : Touched) (rows seen : Rows) → whole ≡ merged xs es → joined es ≡ rows → IsInOrder es → Ascends term_cmp xs → IsSeen xs rows seen → joined whole ≡ seen
whole_seen whole xs es rows seen w j o s h =
    ap joined w ∙ sym (joined_filled (merged xs es)) ∙ (seen_merged xs es seen s o (subst (λ (rs : Rows). IsSeen xs rs seen) (sym j) h)).0

-- a pattern whose answers all have one key
pub match_at : (found : Rows) (xs : Touched) (rows seen : Rows) (p k : PlainTerm) → found ≡ match_object (seen_at xs rows k) p → bound_key p ≡ Some k → IsSeen xs rows seen → found ≡ match_object seen p
match_at found xs rows seen p k f b h = f ∙ ap (λ z. match_object z p) (h.cells k) ∙ at_bound_key p k seen b
