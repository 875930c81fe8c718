use Rattle.std.proofs.Common.{ap, ◌∙◌}
use Rattle.std.specs.Prelude.{is_some, ◌==◌}
use Rattle.std.specs.List.{list_any}
use Rattle.tab_model.specs.Ages.{request_of}
use Rattle.tab_waitdie.proofs.Places.{any_asked}
use Rattle.tab_waitdie.proofs.ages.Ages.waits.Goals as goal

pub returns : goal.returns
returns c =
    c.is_queued.ensures ∙ ap (list_any (λ w. w.age == c.args.age)) c.deref.ensures.value
    ∙ any_asked c.args.age c.self.inside.queue.items ∙ ap (λ g. is_some (request_of c.args.age g.queue)) c.self.view_is
