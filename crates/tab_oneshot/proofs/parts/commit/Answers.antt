use Rattle.std.proofs.Common.{refl, sym, ◌∙◌}
use Rattle.tab_model.specs.declared.data.Command.TheVariants as command
use Rattle.tab_model.specs.declared.data.Part.TheVariants as part
use Rattle.tab_oneshot.specs.Attempts.{AfterInner}
use Rattle.tab_oneshot.specs.Parts.{turn_of}
use Rattle.tab_oneshot.proofs.HandingIn.{handed, stopped}
use Rattle.tab_oneshot.proofs.parts.commit.Goals as goal

pub returns-in-Joined : goal.returns-in-Joined
returns-in-Joined g c =
    let turn = turn_of c.join.result c.join.new.levels in
    handed g.S.Steps.shows g.met.S.Steps.shows_on _ _ _ part.Close c.args.levels.now turn command.Commit _ _ _ (λ s x rest. AfterInner s x c.args.levels.now rest turn) (λ calls h. h)
    refl (sym c.in-Joined.is ∙ c.sort.ensures) c.ask-answer.ensures c.join.ensures

pub returns-in-Refused : goal.returns-in-Refused
returns-in-Refused g c =
    let turn = turn_of c.stop.result c.args.levels.now in
    handed g.S.Steps.shows g.met.S.Steps.shows_on _ _ _ part.Close c.args.levels.now turn command.Commit _ _ _ (λ s x rest. AfterInner s x c.args.levels.now rest turn) (λ calls h. h)
    refl (sym c.in-Refused.is ∙ c.sort.ensures) c.ask-answer.ensures
    (stopped g.S.Steps.shows _ _ _ _ _ c.stop.result c.args.levels.now c.args.levels.now c.args.levels.now refl refl c.around.ensures c.stop.ensures)
