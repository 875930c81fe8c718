use Rattle.std.proofs.Common.{◌≡◌, sym, subst, refl, ap, ◌∙◌}
use Rattle.tab_model.specs.Alone.{start, after, replies}
use Rattle.tab_model.specs.Operations.{answer}
use Rattle.tab_txstore.specs.Stores.{Store, Fits}
use Rattle.tab_txstore.proofs.FitsLemmas.{fits_new}
use Rattle.tab_journal.specs.Audits.{is_answer}
use Rattle.tab_journal.proofs.AuditLemmas.{told_decided}
use Rattle.tab_journal.proofs.rerun.is_told.Goals as goal

pub returns : goal.returns
returns c =
    let w = c.args.tables.now in
    let fits = subst (λ (s : Store). Fits s w) (sym c.new-store.ensures) (fits_new w) in
    let told = subst (λ (s : Store). replies (start w 0) s.moves ≡ s.told) (sym c.new-store.ensures) refl in
    told_decided w c.args.operation.now c.in_ok-answer.answer c.args.told.now c.is_answer.result
    (c.in_ok-answer.ensures.answer 0 c.requires fits told ∙ ap (answer (after (start w 0) c.new-store.result.moves).now) c.in_ok-to_operation.ensures ∙ ap (λ (s : Store). answer (after (start w 0) s.moves).now c.args.operation.now) c.new-store.ensures)
    (c.is_answer.ensures ∙ ap (λ r. is_answer r c.args.told.now) c.reply.ensures)
