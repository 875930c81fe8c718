use Rattle.std.proofs.Common.{◌≡◌, ◌<◌, ℕ, zero, suc, Bool, true, false, refl, sym, ap, ◌∙◌, subst, arith}
use Rattle.std.specs.List.{list_any}
use Rattle.std.proofs.lemmas.Bool.{false≢true}
use Rattle.std.proofs.lemmas.Result.{on_ok_weaker}
use Rattle.tab_term.specs.Same.{same}
use Rattle.tab_term.specs.View.{term}
use Rattle.tab_model.specs.Tables.{at, key, delete_object}
use Rattle.tab_index.specs.FurtherOf.{IsFurtherOf, IsLowered}
use Rattle.tab_index.specs.IndexOf.{IsIndexOf, IsWithout}
use Rattle.tab_index.proofs.FurtherRows.{none_deleted, object_gone_from, another_left, none_left_with}
use Rattle.tab_index.proofs.RowsLemmas.{object_shared, object_gone}
use Rattle.tab_index.proofs.index.Index.forget_object.Goals as goal

-- a test that fails where something is above 0
none_of : (b : Bool) (n : ℕ) → (0 < n → b ≡ true) → b ≡ false → n ≡ 0
none_of b zero h e = refl
none_of b (suc n) h e = absurd (false≢true (sym e ∙ h (omega arith)))

pub returns-then-not-has_record-clause-ok : goal.returns-then-not-has_record-clause-ok
returns-then-not-has_record-clause-ok c =
    let p = c.args.self.now.position in
    let rows = c.args.rows.now.1 in
    let r = term c.args.row.now in
    let absent = ap (λ k. list_any (same r) (at rows k)) (sym c.key-key.ensures) ∙ sym c.has_record.ensures ∙ c.if-not-has_record.true in
    subst (λ new. IsIndexOf new p c.args.self.now.keys) (none_deleted rows r absent) c.requires.index

pub returns-then-not-has_record-clause-further : goal.returns-then-not-has_record-clause-further
returns-then-not-has_record-clause-further c =
    let p = c.args.self.now.position in
    let rows = c.args.rows.now.1 in
    let r = term c.args.row.now in
    let absent = ap (λ k. list_any (same r) (at rows k)) (sym c.key-key.ensures) ∙ sym c.has_record.ensures ∙ c.if-not-has_record.true in
    subst (λ new. IsFurtherOf new p c.args.self.now.further.by_key) (none_deleted rows r absent) c.requires.further

pub returns-then-another-clause-ok : goal.returns-then-another-clause-ok
returns-then-another-clause-ok c =
    let p = c.args.self.now.position in
    let rows = c.args.rows.now.1 in
    let r = c.args.row.now in
    let ms = c.args.self.now.further.by_key in
    let there = ap (λ k. list_any (same (term r)) (at rows k)) (sym c.key-key.ensures) ∙ sym c.has_record.ensures ∙ c.if-not-has_record.false in
    let some = c.in_ok-another.ensures.further.0 c.if-another.true in
    object_shared p rows r c.args.self.now.keys c.requires.ordered
    (another_left p rows r c.element-value.result.now c.key-key.result.now ms c.element-value.ensures c.key-key.ensures c.requires.apart there c.requires.further some) c.requires.index

pub returns-then-another-clause-further : goal.returns-then-another-clause-further
returns-then-another-clause-further c =
    let p = c.args.self.now.position in
    let rows = c.args.rows.now.1 in
    let r = c.args.row.now in
    let ms = c.args.self.now.further.by_key in
    let ns = c.lower.new.self.by_key in
    let there = ap (λ k. list_any (same (term r)) (at rows k)) (sym c.key-key.ensures) ∙ sym c.has_record.ensures ∙ c.if-not-has_record.false in
    let less = subst (λ x. IsLowered ms ns x (key (term r))) c.element-value.ensures (subst (IsLowered ms ns (term c.element-value.result.now)) c.key-key.ensures c.in_ok-another.ensures.lowered) in
    object_gone_from p rows r ms ns c.requires.ordered c.requires.apart there c.requires.further less

pub returns-clause-ok : goal.returns-clause-ok
returns-clause-ok c =
    let p = c.args.self.now.position in
    let rows = c.args.rows.now.1 in
    let r = c.args.row.now in
    let ms = c.args.self.now.further.by_key in
    let es = c.args.self.now.keys in
    let fs = c.take.new.self.keys in
    let there = ap (λ k. list_any (same (term r)) (at rows k)) (sym c.key-key.ensures) ∙ sym c.has_record.ensures ∙ c.if-not-has_record.false in
    let none = none_of _ _ c.in_ok-another.ensures.further.1 c.if-another.false in
    let gone = none_left_with p rows r c.element-value.result.now c.key-key.result.now ms c.element-value.ensures c.key-key.ensures c.requires.apart there c.requires.further none in
    on_ok_weaker c.take.result
    (λ w. subst (λ q. IsIndexOf (delete_object rows (term r)) q fs) (sym c.take.ensures.position)
    (object_gone p rows r es fs c.requires.ordered gone c.requires.index (subst (λ x. IsWithout es fs x (key (term r))) c.element-value.ensures (subst (IsWithout es fs (term c.element-value.result.now)) c.key-key.ensures w))))
    c.take.ensures.ok

pub returns-clause-further : goal.returns-clause-further
returns-clause-further c =
    let p = c.args.self.now.position in
    let rows = c.args.rows.now.1 in
    let r = c.args.row.now in
    let ms = c.args.self.now.further.by_key in
    let ns = c.lower.new.self.by_key in
    let there = ap (λ k. list_any (same (term r)) (at rows k)) (sym c.key-key.ensures) ∙ sym c.has_record.ensures ∙ c.if-not-has_record.false in
    let less = subst (λ x. IsLowered ms ns x (key (term r))) c.element-value.ensures (subst (IsLowered ms ns (term c.element-value.result.now)) c.key-key.ensures c.in_ok-another.ensures.lowered) in
    on_ok_weaker c.take.result
    (λ w. subst (λ q. IsFurtherOf (delete_object rows (term r)) q c.take.new.self.further.by_key) (sym c.take.ensures.position)
    (subst (λ z. IsFurtherOf (delete_object rows (term r)) p z.by_key) (sym c.take.ensures.further) (object_gone_from p rows r ms ns c.requires.ordered c.requires.apart there c.requires.further less)))
    c.take.ensures.ok
