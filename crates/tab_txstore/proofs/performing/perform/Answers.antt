use Rattle.std.proofs.Common.{ap, sym, ◌∙◌, subst}
use Rattle.std.specs.Option.{option_copied}
use Rattle.std.proofs.lemmas.Result.{IfOk-weaker}
use Rattle.tab_model.specs.Catalogs.{find}
use Rattle.tab_model.specs.declared.data.Reply.TheVariants as reply
use Rattle.tab_txstore.specs.Overlays.{touched}
use Rattle.tab_txstore.specs.Answers.{Answers}
use Rattle.tab_txstore.proofs.AnswersLemmas.{answer_shown, absence_shown}
use Rattle.tab_txstore.proofs.performing.perform.Goals as goal

pub returns-clause-answer : goal.returns-clause-answer
returns-clause-answer c =
    let there = ap (find c.args.catalog.now) (sym c.in_ok-name.ensures) ∙ sym c.table.ensures ∙ ap option_copied c.in-Some.is in
    λ age ordered fits told. answer_shown c.args.catalog.now ordered c.args.store.now age fits told c.args.asked.value c.in-Some.committed.now _ there
    (subst (Answers (touched c.args.store.now.levels.now.overlay c.in-Some.committed.now.def.name) c.in-Some.committed.now c.args.asked.value) (sym c.in_ok-reply.ensures.both.0) c.in_ok-answer.ensures)

pub returns-in_default-clause-answer : goal.returns-in_default-clause-answer
returns-in_default-clause-answer c =
    let absent = ap (find c.args.catalog.now) (sym c.in_ok-name.ensures) ∙ sym c.table.ensures ∙ ap option_copied c.in_default.is in
    IfOk-weaker c.fail.result _ _ (λ r h age ordered fits told. h ∙ ap reply.NoTable c.in_ok-name.ensures ∙ absence_shown c.args.catalog.now ordered c.args.store.now age fits told c.args.asked.value absent) c.fail.ensures.answer
