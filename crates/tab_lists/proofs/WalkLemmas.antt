-- A step of the merged walk.
use Rattle.std.proofs.Common.{◌≡◌, [], ◌∷◌, List, refl, sym, ap, ap₂, ◌∙◌, Option, Some, None, Less, Equal, Greater, slice_get}
use denote.Ref.{Bor}
use Rattle.tab_term.specs.declared.term.Term.{Term}
use Rattle.tab_term.specs.Data.{PlainTerms}
use Rattle.tab_term.specs.Order.{term_cmp}
use Rattle.tab_map.specs.Entries.{Ascends}
use Rattle.tab_lists.specs.ByKey.{Entry, merged}
use Rattle.tab_lists.specs.Lists.{Gives}
use Rattle.tab_lists.proofs.MergedLemmas.{committed_below, both_equal, own_below, own_alone}

abbrev Given : Type 0
Given = Option (Bor Term × Bor PlainTerms)

pub none_first : (es : List Entry) → slice_get es 0 ≡ None → es ≡ []
none_first [] h = refl
none_first (e ∷ es) h = cc

abbrev on_tail : (List Entry → List Entry) → List Entry → List Entry
on_tail g [] = []
on_tail g (e ∷ es) = e ∷ g es

abbrev tail_of : List Entry → List Entry
tail_of [] = []
tail_of (e ∷ es) = es

pub alone : (own committed own' : List Entry) (r : Given) → Ascends term_cmp own → committed ≡ [] → Gives own r own' → Gives (merged own committed) r (merged own' committed)
alone own committed own' None s e h = ((λ i. merged (h.0 i) (e i)), (λ i. merged (h.1 i) (e i)))
alone [] committed own' (Some x) s e h = cc
alone (y ∷ own) committed own' (Some x) s e h = ap (merged (y ∷ own)) e ∙ own_alone y own s ∙ ap (on_tail (λ z. merged z [])) h ∙ sym (ap (λ z. (x.0.now, x.1.now) ∷ merged own' z) e)

pub rest_alone : (own committed left : List Entry) (r : Given) → own ≡ [] → Gives committed r left → Gives (merged own committed) r (merged own left)
rest_alone own committed left None e h = ((λ i. merged (e i) (h.0 i)), (λ i. merged (e i) (h.1 i)))
rest_alone own committed left (Some x) e h = ap (λ z. merged z committed) e ∙ h ∙ sym (ap (λ z. (x.0.now, x.1.now) ∷ merged z left) e)

same_first : (a b : Entry) (es : List Entry) → slice_get (a ∷ es) 0 ≡ Some b → a ≡ b
same_first a b es h = cc

pub less : (own committed left : List Entry) (r : Given) (e x : Entry) → slice_get committed 0 ≡ Some e → slice_get own 0 ≡ Some x → term_cmp e.0 x.0 ≡ Less → Ascends term_cmp own → Gives committed r left → Gives (merged own committed) r (merged own left)
less [] committed left r e x h k c s g = cc
less (y ∷ own) [] left r e x h k c s g = cc
less (y ∷ own) (d ∷ committed) left None e x h k c s g = let z : d ∷ committed ≡ [] = g.0 in cc
less (y ∷ own) (d ∷ committed) left (Some p) e x h k c s g =
    committed_below d y own committed (ap₂ (λ (a b : Entry). term_cmp a.0 b.0) (same_first d e committed h) (same_first y x own k) ∙ c) s ∙ ap (on_tail (merged (y ∷ own))) g

pub greater : (own committed own' : List Entry) (r : Given) (e x : Entry) → slice_get committed 0 ≡ Some e → slice_get own 0 ≡ Some x → term_cmp e.0 x.0 ≡ Greater → Ascends term_cmp own → Ascends term_cmp committed → Gives own r own' → Gives (merged own committed) r (merged own' committed)
greater [] committed own' r e x h k c s t g = cc
greater (y ∷ own) [] own' r e x h k c s t g = cc
greater (y ∷ own) (d ∷ committed) own' None e x h k c s t g = let z : y ∷ own ≡ [] = g.0 in cc
greater (y ∷ own) (d ∷ committed) own' (Some p) e x h k c s t g =
    own_below d y own committed (ap₂ (λ (a b : Entry). term_cmp a.0 b.0) (same_first d e committed h) (same_first y x own k) ∙ c) s t ∙ ap (on_tail (λ z. merged z (d ∷ committed))) g

pub equal : (own committed own' left : List Entry) (q r : Given) (e x : Entry) → slice_get committed 0 ≡ Some e → slice_get own 0 ≡ Some x → term_cmp e.0 x.0 ≡ Equal → Ascends term_cmp own → Gives committed q left → Gives own r own' → Gives (merged own committed) r (merged own' left)
equal [] committed own' left q r e x h k c s f g = cc
equal (y ∷ own) [] own' left q r e x h k c s f g = cc
equal (y ∷ own) (d ∷ committed) own' left None r e x h k c s f g = let z : d ∷ committed ≡ [] = f.0 in cc
equal (y ∷ own) (d ∷ committed) own' left (Some o) None e x h k c s f g = let z : y ∷ own ≡ [] = g.0 in cc
equal (y ∷ own) (d ∷ committed) own' left (Some o) (Some p) e x h k c s f g =
    both_equal d y own committed (ap₂ (λ (a b : Entry). term_cmp a.0 b.0) (same_first d e committed h) (same_first y x own k) ∙ c) s
    ∙ ap (λ z. y ∷ merged own z) (ap tail_of f) ∙ ap (on_tail (λ z. merged z left)) g
