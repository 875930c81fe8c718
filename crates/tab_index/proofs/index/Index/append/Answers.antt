use Rattle.std.proofs.Common.{sym, ap, ap₂, ◌∙◌, subst}
use Rattle.std.specs.List.{list_any}
use Rattle.std.proofs.lemmas.Result.{on_ok_weaker}
use Rattle.tab_term.specs.Order.{term_cmp}
use Rattle.tab_term.specs.Same.{same}
use Rattle.tab_term.specs.View.{term}
use Rattle.tab_map.specs.KeyList.{contains_key}
use Rattle.tab_model.specs.Tables.{at, key, put}
use Rattle.tab_model.specs.declared.data.Kind.TheVariants.{Bag}
use Rattle.tab_model.proofs.ChangeLaws.{any_at}
use Rattle.tab_index.specs.FurtherOf.{IsFurtherOf, IsRaised}
use Rattle.tab_index.specs.IndexOf.{IsIndexOf, IsWith}
use Rattle.tab_index.proofs.FurtherRows.{put_again, first_appended, other_appended}
use Rattle.tab_index.proofs.IndexOfLemmas.{with_old}
use Rattle.tab_index.proofs.RowsLemmas.{any_has, put_to_bag}
use Rattle.tab_index.proofs.index.Index.append.Goals as goal

pub returns-then-not-contains-clause-ok : goal.returns-then-not-contains-clause-ok
returns-then-not-contains-clause-ok c =
    let p = c.args.self.now.position in
    let rows = c.args.rows.now.1 in
    let r = term c.args.row.now in
    let es = c.args.self.now.keys in
    let fs = c.put.new.self.keys in
    on_ok_weaker c.put.result
    (λ w. subst (λ q. IsIndexOf (put Bag rows r) q fs) (sym c.put.ensures.position)
    (put_to_bag p rows r es fs c.requires.ordered c.requires.index (subst (λ x. IsWith es fs x (key r)) c.element-value.ensures (subst (IsWith es fs (term c.element-value.result.now)) c.key-key.ensures w))))
    c.put.ensures.ok

pub returns-then-not-contains-clause-further : goal.returns-then-not-contains-clause-further
returns-then-not-contains-clause-further c =
    let p = c.args.self.now.position in
    let rows = c.args.rows.now.1 in
    let r = term c.args.row.now in
    let none = ap₂ (λ x k. any_has p x (at rows k)) (sym c.element-value.ensures) (sym c.key-key.ensures) ∙ sym (c.requires.index.pairs c.element-value.result.now c.key-key.result.now)
    ∙ ap (contains_key term_cmp c.key-key.result.now) (sym c.in_ok-keys.ensures.keys) ∙ sym c.contains.ensures.found ∙ c.if-not-contains.true in
    on_ok_weaker c.put.result
    (λ w. subst (λ q. IsFurtherOf (put Bag rows r) q c.put.new.self.further.by_key) (sym c.put.ensures.position)
    (subst (λ z. IsFurtherOf (put Bag rows r) p z.by_key) (sym c.put.ensures.further) (first_appended p rows r c.args.self.now.further.by_key c.requires.ordered none c.requires.further)))
    c.put.ensures.ok

pub returns-then-has_record-clause-ok : goal.returns-then-has_record-clause-ok
returns-then-has_record-clause-ok c =
    let p = c.args.self.now.position in
    let rows = c.args.rows.now.1 in
    let r = term c.args.row.now in
    let there = any_at r rows ∙ ap (λ k. list_any (same r) (at rows k)) (sym c.key-key.ensures) ∙ sym c.has_record.ensures ∙ c.if-has_record.true in
    subst (λ new. IsIndexOf new p c.args.self.now.keys) (put_again rows r there) c.requires.index

pub returns-then-has_record-clause-further : goal.returns-then-has_record-clause-further
returns-then-has_record-clause-further c =
    let p = c.args.self.now.position in
    let rows = c.args.rows.now.1 in
    let r = term c.args.row.now in
    let there = any_at r rows ∙ ap (λ k. list_any (same r) (at rows k)) (sym c.key-key.ensures) ∙ sym c.has_record.ensures ∙ c.if-has_record.true in
    subst (λ new. IsFurtherOf new p c.args.self.now.further.by_key) (put_again rows r there) c.requires.further

pub returns-clause-ok : goal.returns-clause-ok
returns-clause-ok c =
    let p = c.args.self.now.position in
    let rows = c.args.rows.now.1 in
    let r = term c.args.row.now in
    let es = c.args.self.now.keys in
    let same_keys = with_old es c.element-value.result.now c.key-key.result.now c.in_ok-keys.keys c.in_ok-keys.ensures.keys (sym c.contains.ensures.found ∙ c.if-not-contains.false) in
    on_ok_weaker c.raise.result
    (λ w. put_to_bag p rows r es es c.requires.ordered c.requires.index (subst (λ x. IsWith es es x (key r)) c.element-value.ensures (subst (IsWith es es (term c.element-value.result.now)) c.key-key.ensures same_keys)))
    c.raise.ensures

pub returns-clause-further : goal.returns-clause-further
returns-clause-further c =
    let p = c.args.self.now.position in
    let rows = c.args.rows.now.1 in
    let r = term c.args.row.now in
    let ms = c.args.self.now.further.by_key in
    let ns = c.raise.new.self.by_key in
    let some = ap₂ (λ x k. any_has p x (at rows k)) (sym c.element-value.ensures) (sym c.key-key.ensures) ∙ sym (c.requires.index.pairs c.element-value.result.now c.key-key.result.now)
    ∙ ap (contains_key term_cmp c.key-key.result.now) (sym c.in_ok-keys.ensures.keys) ∙ sym c.contains.ensures.found ∙ c.if-not-contains.false in
    let absent = any_at r rows ∙ ap (λ k. list_any (same r) (at rows k)) (sym c.key-key.ensures) ∙ sym c.has_record.ensures ∙ c.if-has_record.false in
    on_ok_weaker c.raise.result
    (λ w. other_appended p rows r ms ns c.requires.ordered absent some c.requires.further (subst (λ x. IsRaised ms ns x (key r)) c.element-value.ensures (subst (IsRaised ms ns (term c.element-value.result.now)) c.key-key.ensures w)))
    c.raise.ensures
