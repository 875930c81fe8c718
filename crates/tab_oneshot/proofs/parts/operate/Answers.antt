use Rattle.std.proofs.Common.{List, refl, sym, subst, ◌∙◌}
use Rattle.tab_model.specs.declared.data.Command.TheVariants as command
use Rattle.tab_model.specs.declared.data.Part.TheVariants as part
use Rattle.tab_oneshot.specs.Calls.{Call}
use Rattle.tab_oneshot.specs.Attempts.{sort_of, AfterAsked, AfterOperation, AfterWait}
use Rattle.tab_oneshot.specs.Parts.{awaited, turn_of}
use Rattle.tab_oneshot.proofs.HandingIn.{handed, no_place, no_wait, stopped, waits}
use Rattle.tab_oneshot.proofs.parts.operate.Goals as goal

pub returns-then-is_err : goal.returns-then-is_err
returns-then-is_err g c =
    no_place g.S.Steps.shows _ _ (part.Do c.args.asked) c.args.levels.now (turn_of c.stop.result c.reserve.new.self) refl
    (stopped g.S.Steps.shows _ _ _ _ _ c.stop.result c.args.levels.now c.reserve.new.self c.reserve.new.self c.no_memory.ensures c.reserve.ensures c.around.ensures c.stop.ensures)

pub returns-in-Waits : goal.returns-in-Waits
returns-in-Waits g c =
    let turn = turn_of c.after_wait.result c.after_wait.new.levels in
    handed g.S.Steps.shows g.met.S.Steps.shows_on _ _ _ (part.Do c.args.asked) c.args.levels.now turn (command.Do c.args.asked) _ _ _ (λ s x rest. AfterAsked s x c.args.levels.now rest turn) (λ calls h. h)
    refl (sym c.in-Waits.is ∙ c.sort.ensures) c.ask-answer.ensures
    (waits g.S.Steps.shows g.met.S.Steps.shows_on _ _ _ c.ask-answer.result.reply (awaited c.wait-waited.result) c.args.levels.now turn c.wait-waited.ensures
    (subst (λ ls. (more : List Call) × g.S.Steps.shows c.wait-waited.new.steps more c.after_wait.new.steps × AfterWait (awaited c.wait-waited.result) ls more turn) c.reserve.ensures c.after_wait.ensures))

pub returns-in_default : goal.returns-in_default
returns-in_default g c =
    let turn = turn_of c.after_operation.result c.after_operation.new.levels in
    let answer = c.ask-answer.result.reply in
    let after = c.after_operation.ensures in
    handed g.S.Steps.shows g.met.S.Steps.shows_on _ _ _ (part.Do c.args.asked) c.args.levels.now turn (command.Do c.args.asked) _ _ (sort_of answer) (λ s x rest. AfterAsked s x c.args.levels.now rest turn) (λ calls h. h)
    refl refl c.ask-answer.ensures
    (after.0, after.1, no_wait (sort_of answer) answer c.args.levels.now after.0 turn (λ h. c.in_default.not-Waits (c.sort.ensures ∙ h)) (subst (λ ls. AfterOperation (sort_of answer) answer ls after.0 turn) c.reserve.ensures after.2))
