use Rattle.std.proofs.Common.{◌∷◌, [], map, sym, ap, ◌∙◌, subst}
use Rattle.std.proofs.lemmas.Result.{on_ok_weaker}
use Rattle.tab_term.specs.View.{term}
use Rattle.tab_model.specs.Tables.{at, key, put, delete}
use Rattle.tab_model.specs.WholeTables.{element}
use Rattle.tab_model.specs.declared.data.Kind.TheVariants.{Set}
use Rattle.tab_index.specs.FurtherOf.{IsFurtherOf}
use Rattle.tab_index.specs.IndexOf.{IsIndexOf, IsWith}
use Rattle.tab_index.proofs.FurtherRows.{put_alone, put_same}
use Rattle.tab_index.proofs.RowsLemmas.{put_over, put_to_set}
use Rattle.tab_index.proofs.index.Index.replace.Goals as goal

pub returns-then-has_only-clause-ok : goal.returns-then-has_only-clause-ok
returns-then-has_only-clause-ok c =
    let p = c.args.self.now.position in
    let rows = c.args.rows.now.1 in
    let r = term c.args.row.now in
    let cells = c.at.ensures ∙ ap (at rows) c.key-key.ensures in
    let only = ap (map (element p)) (sym cells) ∙ c.has_only.ensures c.if-has_only.true ∙ ap (λ x. x ∷ []) c.element-value.ensures in
    put_over p rows r c.args.self.now.keys c.requires.ordered only c.requires.index

pub returns-then-has_only-clause-further : goal.returns-then-has_only-clause-further
returns-then-has_only-clause-further c =
    let p = c.args.self.now.position in
    let rows = c.args.rows.now.1 in
    let r = term c.args.row.now in
    let cells = c.at.ensures ∙ ap (at rows) c.key-key.ensures in
    let only = ap (map (element p)) (sym cells) ∙ c.has_only.ensures c.if-has_only.true ∙ ap (λ x. x ∷ []) c.element-value.ensures in
    put_same p rows r c.args.self.now.further.by_key c.requires.ordered only c.requires.further

pub returns-clause-ok : goal.returns-clause-ok
returns-clause-ok c =
    let q = c.forget.new.self.position in
    let rows = c.args.rows.now.1 in
    let r = term c.args.row.now in
    let es = c.forget.new.self.keys in
    let fs = c.put.new.self.keys in
    let forgotten = subst (λ k. IsIndexOf (delete rows k) q es) c.key-key.ensures c.in_ok-forget.ensures.ok in
    let value = c.element-value.ensures ∙ ap (λ z. element z r) (sym c.forget.ensures.position) in
    on_ok_weaker c.put.result
    (λ w. subst (λ p. IsIndexOf (put Set rows r) p fs) (sym c.put.ensures.position)
    (put_to_set q rows r es fs c.requires.ordered forgotten (subst (λ x. IsWith es fs x (key r)) value (subst (IsWith es fs (term c.element-value.result.now)) c.key-key.ensures w))))
    c.put.ensures.ok

pub returns-clause-further : goal.returns-clause-further
returns-clause-further c =
    let q = c.forget.new.self.position in
    let rows = c.args.rows.now.1 in
    let r = term c.args.row.now in
    let ms = c.forget.new.self.further.by_key in
    let forgotten = subst (λ k. IsFurtherOf (delete rows k) q ms) c.key-key.ensures c.in_ok-forget.ensures.further in
    on_ok_weaker c.put.result
    (λ w. subst (λ p. IsFurtherOf (put Set rows r) p c.put.new.self.further.by_key) (sym c.put.ensures.position)
    (subst (λ z. IsFurtherOf (put Set rows r) q z.by_key) (sym c.put.ensures.further) (put_alone q rows r ms c.requires.ordered forgotten)))
    c.put.ensures.ok
