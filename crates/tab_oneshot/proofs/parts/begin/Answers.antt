use Rattle.std.proofs.Common.{refl, sym, ◌∙◌}
use Rattle.tab_model.specs.declared.data.Command.TheVariants as command
use Rattle.tab_model.specs.declared.data.Part.TheVariants as part
use Rattle.tab_oneshot.specs.Attempts.{AfterBegin}
use Rattle.tab_oneshot.specs.Parts.{turn_of}
use Rattle.tab_oneshot.proofs.HandingIn.{handed, no_place, stopped}
use Rattle.tab_oneshot.proofs.parts.begin.Goals as goal

pub returns-then-is_err : goal.returns-then-is_err
returns-then-is_err g c =
    no_place g.S.Steps.shows _ _ part.Open c.args.levels.now (turn_of c.stop.result c.begin.new.self) refl
    (stopped g.S.Steps.shows _ _ _ _ _ c.stop.result c.args.levels.now c.begin.new.self c.args.levels.now c.no_memory.ensures refl c.around-around.ensures c.stop.ensures)

pub returns-in-Refused : goal.returns-in-Refused
returns-in-Refused g c =
    let turn = turn_of c.stop-in-Refused.result c.begin.new.self in
    handed g.S.Steps.shows g.met.S.Steps.shows_on _ _ _ part.Open c.args.levels.now turn command.Begin _ _ _ (λ s x rest. AfterBegin s x c.args.levels.now rest turn) (λ calls h. h)
    refl (sym c.in-Refused.is ∙ c.sort.ensures) c.ask-answer.ensures
    (stopped g.S.Steps.shows _ _ _ _ _ c.stop-in-Refused.result c.args.levels.now c.begin.new.self c.args.levels.now refl refl c.around-around.ensures c.stop-in-Refused.ensures)
