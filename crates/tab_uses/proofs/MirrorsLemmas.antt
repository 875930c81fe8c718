-- What a mirror has after one term more.
use Rattle.std.proofs.Common.{◌≡◌, ℕ, ◌+◌, ◌<◌, List, length, take, get_or, Option, sym, ap, ◌∙◌}
use Rattle.std.proofs.lemmas.List.Sums.{fold_more}
use Rattle.tab_term.specs.View.{term}
use Rattle.tab_term.specs.declared.term.Term.{Term}
use Rattle.tab_model.specs.declared.data.Kind.{Kind}
use Rattle.tab_model.specs.Tables.{Rows}
use Rattle.tab_events.specs.Mirrors.{Held, fed}
use Rattle.tab_events.specs.declared.mirrored.Mirrored.{Mirrored}
use Rattle.tab_uses.specs.Mirrors.{rows_after}

-- a term's rows are those of the terms before it and then its own
pub rows_after_take : (m old new : Held) (told : List Term) (i : ℕ) (x : Term) (mirrored : Mirrored) → i < length told → x ≡ get_or told i x → old.table ≡ m.table → old.kind ≡ m.kind → old.rows ≡ rows_after m (take i told) → (new.rows, mirrored) ≡ fed old.table old.kind old.rows (term x) → new.rows ≡ rows_after m (take (i + 1) told)
rows_after_take m old new told i x mirrored lt is table kind rows fed_is =
    let step : Option Rows → Term → Option Rows = λ rows y. (fed m.table m.kind rows (term y)).0 in
    let more = fold_more step m.rows told i x lt in
    let same_table = ap (λ (t : List ℕ). (fed t old.kind old.rows (term x)).0) table in
    let same_kind = ap (λ (k : Kind). (fed m.table k old.rows (term x)).0) kind in
    let same_rows = ap (λ (r : Option Rows). step r x) rows in
    let same_term = ap (λ (y : Term). step (rows_after m (take i told)) y) is in
    ap (λ (p : Option Rows × Mirrored). p.0) fed_is ∙ same_table ∙ same_kind ∙ same_rows ∙ same_term ∙ sym more
