use Rattle.std.proofs.Common.{sym, subst, IfOk}
use Rattle.std.proofs.lemmas.Result.{IfOk-weaker}
use Rattle.tab_txstore.specs.Overlays.{touched}
use Rattle.tab_txstore.specs.Answers.{Answers}
use Rattle.tab_txstore.proofs.AnswersLemmas.{written, object_deleted}
use Rattle.tab_txstore.proofs.answering.answered.Goals as goal

pub returns-in-Write : goal.returns-in-Write
returns-in-Write c =
    subst (λ o. IfOk c.write.result (λ a. Answers (touched c.args.store.now.levels.now.overlay c.args.committed.now.def.name) c.args.committed.now o a)) (sym c.in-Write.is)
    (IfOk-weaker c.write.result _ _ (λ a. written _ c.args.committed.now c.in-Write.row a) c.write.ensures.write)

pub returns-in-DeleteObject : goal.returns-in-DeleteObject
returns-in-DeleteObject c =
    subst (λ o. IfOk c.write-in-DeleteObject.result (λ a. Answers (touched c.args.store.now.levels.now.overlay c.args.committed.now.def.name) c.args.committed.now o a)) (sym c.in-DeleteObject.is)
    (IfOk-weaker c.write-in-DeleteObject.result _ _ (λ a. object_deleted _ c.args.committed.now c.in-DeleteObject.row a) c.write-in-DeleteObject.ensures.delete)
