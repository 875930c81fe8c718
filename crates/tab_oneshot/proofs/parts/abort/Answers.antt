use Rattle.std.proofs.Common.{List, refl, sym, subst, ◌∙◌}
use Rattle.tab_model.specs.declared.data.Command.TheVariants as command
use Rattle.tab_model.specs.declared.data.Part.TheVariants as part
use Rattle.tab_oneshot.specs.Calls.{Call}
use Rattle.tab_oneshot.specs.Attempts.{AfterAbort, LevelEnds}
use Rattle.tab_oneshot.specs.Parts.{turn_of}
use Rattle.tab_oneshot.proofs.HandingIn.{handed, no_place, stopped}
use Rattle.tab_oneshot.proofs.parts.abort.Goals as goal

pub returns-then-is_err : goal.returns-then-is_err
returns-then-is_err g c =
    no_place g.S.Steps.shows _ _ (part.Abort c.args.reason) c.args.levels.now (turn_of c.stop.result c.reserve.new.self) refl
    (stopped g.S.Steps.shows _ _ _ _ _ c.stop.result c.args.levels.now c.reserve.new.self c.reserve.new.self c.no_memory.ensures c.reserve.ensures c.around.ensures c.stop.ensures)

pub returns-in-Aborted : goal.returns-in-Aborted
returns-in-Aborted g c =
    let turn = turn_of c.end_level.result c.end_level.new.levels in
    handed g.S.Steps.shows g.met.S.Steps.shows_on _ _ _ (part.Abort c.args.reason) c.args.levels.now turn (command.Abort c.args.reason) _ _ _ (λ s x rest. AfterAbort s x c.args.levels.now rest turn) (λ calls h. h)
    refl (sym c.in-Aborted.is ∙ c.sort.ensures) c.ask-answer.ensures
    (subst (λ ls. (more : List Call) × g.S.Steps.shows c.ask-answer.new.steps more c.end_level.new.steps × LevelEnds c.ask-answer.result.reply ls more turn) c.reserve.ensures c.end_level.ensures)

pub returns-in-Refused : goal.returns-in-Refused
returns-in-Refused g c =
    let turn = turn_of c.stop-in-Refused.result c.reserve.new.self in
    handed g.S.Steps.shows g.met.S.Steps.shows_on _ _ _ (part.Abort c.args.reason) c.args.levels.now turn (command.Abort c.args.reason) _ _ _ (λ s x rest. AfterAbort s x c.args.levels.now rest turn) (λ calls h. h)
    refl (sym c.in-Refused.is ∙ c.sort.ensures) c.ask-answer.ensures
    (stopped g.S.Steps.shows _ _ _ _ _ c.stop-in-Refused.result c.args.levels.now c.reserve.new.self c.reserve.new.self refl c.reserve.ensures c.around-in-Refused.ensures c.stop-in-Refused.ensures)
