-- An operation is told the same in two worlds that agree on what its lock covers.
use Rattle.std.proofs.Common.{◌≡◌, [], ◌∷◌, Bool, true, false, ◌||◌, ◌&&◌, refl, sym, ap, ap₂, ◌∙◌, Option, Some, None}
use Rattle.std.specs.Prelude.{if◌then◌else◌}
use Rattle.std.specs.List.{filter}
use Rattle.std.proofs.lemmas.Bool.{false≢true, and_parts, or_parts}
use Rattle.std.proofs.Math.Bool.{and-false}
use Rattle.tab_term.specs.Data.{PlainTerm, int, atom, tuple, list, bin, map, PlainTerms, none, one_more}
use Rattle.tab_term.specs.Same.{same, all_same}
use Rattle.tab_term.specs.Pattern.{matches, all_match, has_wildcard, any_wildcard}
use Rattle.tab_term.specs.View.{term}
use Rattle.tab_model.specs.declared.data.TableDef.{TableDef}
use Rattle.tab_model.specs.declared.data.Operation.{Operation}
use Rattle.tab_model.specs.declared.data.Operation.TheVariants as op
use Rattle.tab_model.specs.declared.data.Reply.{Reply}
use Rattle.tab_model.specs.declared.data.Reply.TheVariants as reply
use Rattle.tab_model.specs.Names.{plain_terms}
use Rattle.tab_model.specs.Tables.{Rows, key, second, has_key, at, is_ordered, SameTable}
use Rattle.tab_model.specs.WholeTables.{match_object}
use Rattle.tab_model.specs.Definitions.{fits_def, is_indexed, position}
use Rattle.tab_model.specs.Catalogs.{Table}
use Rattle.tab_model.specs.Operations.{failure_in, answer_or, failure_at, answer_at, bad_type}
use Rattle.tab_model.specs.Locks.{Part, All, Key, needs}
use Rattle.tab_model.proofs.TableLaws.{same_true, same_refl, same_lists}

-- a pattern without '_' matches what it equals alone
mutual
  fits_plain : (p t : PlainTerm) → has_wildcard p ≡ false → matches p t ≡ same p t
  fits_plain (atom p) t h = ap (λ b. b || same (atom p) t) h
  fits_plain (tuple ps) (tuple ts) h = fit_plain ps ts h
  fits_plain (list ps) (list ts) h = fit_plain ps ts h
  fits_plain p t h = refl

  fit_plain : (ps ts : PlainTerms) → any_wildcard ps ≡ false → all_match ps ts ≡ all_same ps ts
  fit_plain none none h = refl
  fit_plain (one_more p ps) (one_more t ts) h = ap₂ (λ a b. a && b) (fits_plain p t (or_parts (has_wildcard p) (any_wildcard ps) h).0) (fit_plain ps ts (or_parts (has_wildcard p) (any_wildcard ps) h).1)
  fit_plain ps ts h = refl

-- what matches a pattern whose key holds no '_' has its key
key_fits : (ps : PlainTerms) (r : PlainTerm) → has_wildcard (second ps) ≡ false → matches (tuple ps) r ≡ true → has_key (second ps) r ≡ true
key_fits ps (int z) h f = cc
key_fits ps (atom z) h f = cc
key_fits ps (list z) h f = cc
key_fits ps (bin z) h f = cc
key_fits ps (map z) h f = cc
key_fits none (tuple none) h f = refl
key_fits none (tuple (one_more b rs)) h f = cc
key_fits (one_more a none) (tuple none) h f = cc
key_fits (one_more a none) (tuple (one_more b none)) h f = refl
key_fits (one_more a none) (tuple (one_more b (one_more j rs))) h f = absurd (false≢true (sym (and-false (matches a b)) ∙ f))
key_fits (one_more a (one_more k ps)) (tuple none) h f = cc
key_fits (one_more a (one_more k ps)) (tuple (one_more b none)) h f = absurd (false≢true (sym (and-false (matches a b)) ∙ f))
key_fits (one_more a (one_more k ps)) (tuple (one_more b (one_more j rs))) h f =
    ap (λ z. same z k) (sym (same_true k j (sym (fits_plain k j h) ∙ (and_parts (matches k j) (all_match ps rs) (and_parts (matches a b) (matches k j && all_match ps rs) f).1).0))) ∙ same_refl k

filter_sub : (f g : PlainTerm → Bool) (rows : Rows) → ((x : PlainTerm) → f x ≡ true → g x ≡ true) → filter f rows ≡ filter f (filter g rows)
filter_sub f g [] h = refl
filter_sub f g (x ∷ rows) h = cases (filter_sub f g rows h) (f x) refl (g x) refl
  where
    cases : filter f rows ≡ filter f (filter g rows) → (a : Bool) → f x ≡ a → (b : Bool) → g x ≡ b → (if a then x ∷ filter f rows else filter f rows) ≡ filter f (if b then x ∷ filter g rows else filter g rows)
    cases ih true e true d = ap (λ xs. x ∷ xs) ih ∙ sym (ap (λ z. if z then x ∷ filter f (filter g rows) else filter f (filter g rows)) e)
    cases ih true e false d = absurd (false≢true (sym d ∙ h x e))
    cases ih false e true d = ih ∙ sym (ap (λ z. if z then x ∷ filter f (filter g rows) else filter f (filter g rows)) e)
    cases ih false e false d = ih

-- two tables, there or not, that agree on a definition and on what a part of their keys holds
abbrev pub AgreeOn : Part → Rows → Rows → Type 0
AgreeOn All xs ys = SameTable xs ys
AgreeOn (Key k) xs ys = at xs k ≡ at ys k

pub record Alike (part : Part) (x y : Table) : Type 0 where
  pub defs : x.def ≡ y.def
  pub rows : AgreeOn part x.rows y.rows
  pub ordered : is_ordered x.rows ≡ true
  pub ordered' : is_ordered y.rows ≡ true

pub same_failure : (o : Operation) (x y : Table) → x.def ≡ y.def → failure_at x o ≡ failure_at y o
same_failure (op.Read n k) x y d = refl
same_failure (op.ReadForWrite n k) x y d = refl
same_failure (op.Write r) x y d = ap (λ z. bad_type z r) d
same_failure (op.Delete n k) x y d = refl
same_failure (op.DeleteObject r) x y d = ap (λ z. bad_type z r) d
same_failure (op.IndexRead n v a) x y d = ap (λ z. if is_indexed z (position z (term a)) then None else Some (reply.NoIndex n a)) d
same_failure (op.MatchObject p) x y d = ap (λ z. bad_type z p) d
same_failure (op.AllKeys n) x y d = refl
same_failure (op.ReadLockTable n) x y d = refl
same_failure (op.WriteLockTable n) x y d = refl

whole_same : (x y : Table) → Alike All x y → x ≡ y
whole_same x y a = λ i. record { def = a.defs i; rows = same_lists x.rows y.rows a.ordered a.ordered' a.rows i }

match_same : (x y : Table) (p : PlainTerm) (b : Bool) → has_wildcard (key p) ≡ b → Alike (if b then All else Key (key p)) x y → fits_def x.def p ≡ true → match_object x.rows p ≡ match_object y.rows p
match_same x y p true e a f = ap (λ xs. match_object xs p) (same_lists x.rows y.rows a.ordered a.ordered' a.rows)
match_same x y (tuple ps) false e a f =
    filter_sub (matches (tuple ps)) (has_key (second ps)) x.rows (λ r g. key_fits ps r e g) ∙ ap (filter (matches (tuple ps))) a.rows ∙ sym (filter_sub (matches (tuple ps)) (has_key (second ps)) y.rows (λ r g. key_fits ps r e g))
match_same x y (int z) false e a f = cc
match_same x y (atom z) false e a f = cc
match_same x y (list z) false e a f = cc
match_same x y (bin z) false e a f = cc
match_same x y (map z) false e a f = cc

match_told : (x y : Table) (p : Rattle.tab_term.specs.declared.term.Term.Term) (b : Bool) → fits_def x.def (term p) ≡ b → Alike (needs (op.MatchObject p)).part x y
    → answer_or (if b then None else Some (reply.BadType x.def.name p)) (Some x) (op.MatchObject p) ≡ answer_or (if b then None else Some (reply.BadType y.def.name p)) (Some y) (op.MatchObject p)
match_told x y p true e a = ap (λ xs. reply.Found (plain_terms xs)) (match_same x y (term p) (has_wildcard (key (term p))) refl a e)
match_told x y p false e a = ap (λ d. reply.BadType (TableDef.name d) p) a.defs

told_by : (o : Operation) (x y : Table) → x.def ≡ y.def → answer_at x o ≡ answer_at y o → answer_or (failure_at x o) (Some x) o ≡ answer_or (failure_at y o) (Some y) o
told_by o x y d e = ap (λ f. answer_or f (Some x) o) (same_failure o x y d) ∙ or_same (failure_at y o)
  where
    or_same : (f : Option Reply) → answer_or f (Some x) o ≡ answer_or f (Some y) o
    or_same None = e
    or_same (Some r) = refl

-- an operation is told the same on tables that are alike where its lock is
pub same_told : (o : Operation) (x y : Table) → Alike (needs o).part x y → answer_or (failure_in (Some x) o) (Some x) o ≡ answer_or (failure_in (Some y) o) (Some y) o
same_told (op.Read n k) x y a = ap (λ xs. reply.Found (plain_terms xs)) a.rows
same_told (op.ReadForWrite n k) x y a = ap (λ xs. reply.Found (plain_terms xs)) a.rows
same_told (op.Write r) x y a = told_by (op.Write r) x y a.defs refl
same_told (op.Delete n k) x y a = refl
same_told (op.DeleteObject r) x y a = told_by (op.DeleteObject r) x y a.defs refl
same_told (op.IndexRead n v b) x y a = ap (λ z. answer_or (failure_in (Some z) (op.IndexRead n v b)) (Some z) (op.IndexRead n v b)) (whole_same x y a)
same_told (op.MatchObject p) x y a = match_told x y p (fits_def x.def (term p)) refl a ∙ ap (λ d. answer_or (if fits_def d (term p) then None else Some (reply.BadType y.def.name p)) (Some y) (op.MatchObject p)) a.defs
same_told (op.AllKeys n) x y a = ap (λ z. answer_or (failure_in (Some z) (op.AllKeys n)) (Some z) (op.AllKeys n)) (whole_same x y a)
same_told (op.ReadLockTable n) x y a = refl
same_told (op.WriteLockTable n) x y a = refl
