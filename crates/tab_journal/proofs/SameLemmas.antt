-- When names, definitions and tables are the same.
use Rattle.std.proofs.Common.{◌≡◌, ◌≢◌, ℕ, List, [], ◌∷◌, false, ◌&&◌, ◌==◌, refl, ap, ◌∙◌, length, arith}
use Rattle.std.specs.Str.{bytes_eq}
use Rattle.std.specs.Bool.{Decides}
use Rattle.std.proofs.Math.Bool.{and-false}
use Rattle.std.proofs.lemmas.Bool.{false≢true}
use Rattle.std.proofs.lemmas.Bool.Decides.{Decides-and, Decides-like, Decides-eqb}
use Rattle.std.proofs.lemmas.Slice.Eq.{bytes_eq-Decides}
use Rattle.tab_term.specs.Same.{same, same-Decides}
use Rattle.tab_model.specs.declared.data.Kind.{Kind}
use Rattle.tab_model.specs.declared.data.Kind.TheVariants.{Set, Bag}
use Rattle.tab_model.specs.Tables.{Rows}
use Rattle.tab_model.specs.Catalogs.{Catalog, Table}
use Rattle.tab_journal.specs.Audits.{same_names, same_kind, same_numbers, same_def, same_rows, same_table, same_tables}
use Rattle.tab_model.specs.declared.data.TableDef.{TableDef}

pub names_differ : (ts us : List (List ℕ)) → length ts ≢ length us → same_names ts us ≡ false
names_differ [] [] h = absurd (h refl)
names_differ [] (u ∷ us) h = refl
names_differ (t ∷ ts) [] h = refl
names_differ (t ∷ ts) (u ∷ us) h = ap (λ b. bytes_eq t u && b) (names_differ ts us (λ e. h (omega arith))) ∙ and-false (bytes_eq t u)

pub names-Decides : (ts us : List (List ℕ)) → Decides (same_names ts us) (ts ≡ us)
names-Decides [] [] = (λ e. refl, λ e. refl)
names-Decides (t ∷ ts) (u ∷ us) = Decides-like (bytes_eq t u && same_names ts us) (λ p. λ i. p.0 i ∷ p.1 i) (λ e. (cc, cc)) (Decides-and (bytes_eq t u) (same_names ts us) (bytes_eq-Decides t u) (names-Decides ts us))
names-Decides ts us = (λ e. absurd (false≢true e), λ e. absurd cc)

pub numbers_differ : (ns ms : List ℕ) → length ns ≢ length ms → same_numbers ns ms ≡ false
numbers_differ [] [] h = absurd (h refl)
numbers_differ [] (m ∷ ms) h = refl
numbers_differ (n ∷ ns) [] h = refl
numbers_differ (n ∷ ns) (m ∷ ms) h = ap (λ b. (n == m) && b) (numbers_differ ns ms (λ e. h (omega arith))) ∙ and-false (n == m)

pub numbers-Decides : (ns ms : List ℕ) → Decides (same_numbers ns ms) (ns ≡ ms)
numbers-Decides [] [] = (λ e. refl, λ e. refl)
numbers-Decides (n ∷ ns) (m ∷ ms) = Decides-like ((n == m) && same_numbers ns ms) (λ p. λ i. p.0 i ∷ p.1 i) (λ e. (cc, cc)) (Decides-and (n == m) (same_numbers ns ms) (Decides-eqb n m) (numbers-Decides ns ms))
numbers-Decides ns ms = (λ e. absurd (false≢true e), λ e. absurd cc)

kind-Decides : (k l : Kind) → Decides (same_kind k l) (k ≡ l)
kind-Decides Set Set = (λ e. refl, λ e. refl)
kind-Decides Bag Bag = (λ e. refl, λ e. refl)
kind-Decides Set Bag = (λ e. absurd (false≢true e), λ e. absurd cc)
kind-Decides Bag Set = (λ e. absurd (false≢true e), λ e. absurd cc)

def-Decides : (d e : TableDef) → Decides (same_def d e) (d ≡ e)
def-Decides d e = Decides-like (same_def d e)
    (λ p. λ i. record { name = p.0.0 i; kind = p.0.1 i; attributes = p.1.0 i; indexes = p.1.1 i })
    (λ h. ((ap (λ (x : TableDef). x.name) h, ap (λ (x : TableDef). x.kind) h), (ap (λ (x : TableDef). x.attributes) h, ap (λ (x : TableDef). x.indexes) h)))
    (Decides-and _ _
    (Decides-and (bytes_eq d.name e.name) (same_kind d.kind e.kind) (bytes_eq-Decides d.name e.name) (kind-Decides d.kind e.kind))
    (Decides-and (same_names d.attributes e.attributes) (same_numbers d.indexes e.indexes) (names-Decides d.attributes e.attributes) (numbers-Decides d.indexes e.indexes)))

rows-Decides : (xs ys : Rows) → Decides (same_rows xs ys) (xs ≡ ys)
rows-Decides [] [] = (λ e. refl, λ e. refl)
rows-Decides (x ∷ xs) (y ∷ ys) = Decides-like (same x y && same_rows xs ys) (λ p. λ i. p.0 i ∷ p.1 i) (λ e. (cc, cc)) (Decides-and (same x y) (same_rows xs ys) (same-Decides x y) (rows-Decides xs ys))
rows-Decides xs ys = (λ e. absurd (false≢true e), λ e. absurd cc)

table-Decides : (t u : Table) → Decides (same_table t u) (t ≡ u)
table-Decides t u = Decides-like (same_table t u)
    (λ p. λ i. record { def = p.0 i; rows = p.1 i })
    (λ h. (ap (λ (x : Table). x.def) h, ap (λ (x : Table). x.rows) h))
    (Decides-and (same_def t.def u.def) (same_rows t.rows u.rows) (def-Decides t.def u.def) (rows-Decides t.rows u.rows))

pub tables-Decides : (w v : Catalog) → Decides (same_tables w v) (w ≡ v)
tables-Decides [] [] = (λ e. refl, λ e. refl)
tables-Decides (t ∷ w) (u ∷ v) = Decides-like (same_table t u && same_tables w v) (λ p. λ i. p.0 i ∷ p.1 i) (λ e. (cc, cc)) (Decides-and (same_table t u) (same_tables w v) (table-Decides t u) (tables-Decides w v))
tables-Decides w v = (λ e. absurd (false≢true e), λ e. absurd cc)
