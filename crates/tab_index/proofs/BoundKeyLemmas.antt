-- What fits a pattern with a bound key has that key.
use Rattle.std.proofs.Common.{◌≡◌, [], ◌∷◌, Bool, true, false, ◌&&◌, ◌||◌, Some, None, refl, sym, ap, ap₂, ◌∙◌}
use Rattle.std.specs.Prelude.{if◌then◌else◌}
use Rattle.std.specs.Cmp.{IsEquivalence}
use Rattle.std.proofs.lemmas.Bool.{false≢true, and_parts}
use Rattle.tab_term.specs.Data.{PlainTerm, int, atom, tuple, list, bin, map, PlainTerms, none, one_more}
use Rattle.tab_term.specs.Pattern.{matches, all_match, has_wildcard, any_wildcard}
use Rattle.tab_term.specs.Same.{same, all_same, same_equiv}
use Rattle.tab_model.specs.Tables.{Rows, has_key, at}
use Rattle.tab_model.specs.WholeTables.{match_object}
use Rattle.tab_index.specs.BoundKey.{bound_key}

neither : (a b : Bool) → (a || b) ≡ false → (a ≡ false) × (b ≡ false)
neither true b h = absurd (false≢true (sym h))
neither false b h = (refl, h)

-- a pattern without wildcards fits its equal alone
mutual
  plain : (p t : PlainTerm) → has_wildcard p ≡ false → matches p t ≡ same p t
  plain (atom n) t h = ap (λ b. b || same (atom n) t) h
  plain (tuple ps) (tuple ts) h = all_plain ps ts h
  plain (list ps) (list ts) h = all_plain ps ts h
  plain (tuple ps) (int z) h = refl
  plain (tuple ps) (atom s) h = refl
  plain (tuple ps) (list ts) h = refl
  plain (tuple ps) (bin b) h = refl
  plain (tuple ps) (map qs) h = refl
  plain (list ps) (int z) h = refl
  plain (list ps) (atom s) h = refl
  plain (list ps) (tuple ts) h = refl
  plain (list ps) (bin b) h = refl
  plain (list ps) (map qs) h = refl
  plain (int z) t h = refl
  plain (bin b) t h = refl
  plain (map qs) t h = refl

  all_plain : (ps ts : PlainTerms) → any_wildcard ps ≡ false → all_match ps ts ≡ all_same ps ts
  all_plain none none h = refl
  all_plain none (one_more t ts) h = refl
  all_plain (one_more p ps) none h = refl
  all_plain (one_more p ps) (one_more t ts) h = let q = neither (has_wildcard p) (any_wildcard ps) h in ap₂ (λ a b. a && b) (plain p t q.0) (all_plain ps ts q.1)

never : (b : Bool) → (b && false) ≡ true → ⊥
never true h = false≢true h
never false h = false≢true h

second_key : (a k : PlainTerm) (ps : PlainTerms) (r : PlainTerm) → has_wildcard k ≡ false → matches (tuple (one_more a (one_more k ps))) r ≡ true → has_key k r ≡ true
second_key a k ps (tuple none) w h = absurd (false≢true h)
second_key a k ps (tuple (one_more x none)) w h = absurd (never (matches a x) h)
second_key a k ps (tuple (one_more x (one_more y ts))) w h =
    IsEquivalence.symm same_equiv y k ∙ sym (plain k y w) ∙ (and_parts (matches k y) (all_match ps ts) (and_parts (matches a x) (matches k y && all_match ps ts) h).1).0
second_key a k ps (int z) w h = absurd (false≢true h)
second_key a k ps (atom s) w h = absurd (false≢true h)
second_key a k ps (list ts) w h = absurd (false≢true h)
second_key a k ps (bin b) w h = absurd (false≢true h)
second_key a k ps (map qs) w h = absurd (false≢true h)

same_key : (p k r : PlainTerm) → bound_key p ≡ Some k → matches p r ≡ true → has_key k r ≡ true
same_key (int z) k r b h = cc
same_key (atom s) k r b h = cc
same_key (list ts) k r b h = cc
same_key (bin s) k r b h = cc
same_key (map qs) k r b h = cc
same_key (tuple none) k r b h = cc
same_key (tuple (one_more a none)) k r b h = cc
same_key (tuple (one_more a (one_more j ps))) k r b h = cases (has_wildcard j) refl b
  where
    inner : Some j ≡ Some k → j ≡ k
    inner e = cc

    cases : (w : Bool) → has_wildcard j ≡ w → (if w then None else Some j) ≡ Some k → has_key k r ≡ true
    cases true e g = cc
    cases false e g = ap (λ q. has_key q r) (sym (inner g)) ∙ second_key a j ps r e h

pub at_bound_key : (p k : PlainTerm) (rows : Rows) → bound_key p ≡ Some k → match_object (at rows k) p ≡ match_object rows p
at_bound_key p k [] b = refl
at_bound_key p k (x ∷ rows) b = cases (at_bound_key p k rows b) (has_key k x) refl (matches p x) refl
  where
    cases : match_object (at rows k) p ≡ match_object rows p → (a : Bool) → has_key k x ≡ a → (c : Bool) → matches p x ≡ c → match_object (if a then x ∷ at rows k else at rows k) p ≡ (if c then x ∷ match_object rows p else match_object rows p)
    cases ih true e c f = ap (λ z. if z then x ∷ match_object (at rows k) p else match_object (at rows k) p) f ∙ ap (λ ys. if c then x ∷ ys else ys) ih
    cases ih false e true f = absurd (false≢true (sym e ∙ same_key p k x b f))
    cases ih false e false f = ih
