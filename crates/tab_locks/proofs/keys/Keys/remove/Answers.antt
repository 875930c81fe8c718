use Rattle.std.proofs.Common.{◌≡◌, false, ap, sym, ◌∙◌, ◌&&◌, not}
use Rattle.std.specs.List.{list_any}
use Rattle.tab_term.specs.Same.{same}
use Rattle.tab_term.specs.View.{term}
use Rattle.tab_locks.specs.Members.{Drops}
use Rattle.tab_locks.specs.Spots.{KeySpot, stands_on_key, is_holding}
use Rattle.tab_locks.proofs.Joined.{dropped_joined}
use Rattle.tab_locks.proofs.Passing.{any_below, any_but}
use Rattle.tab_locks.proofs.keys.Keys.remove.Goals as goal

pub returns-else-has : goal.returns-else-has
returns-else-has c = λ p.
    let gone = stands_on_key (term c.args.key) (c.args.age, c.args.write) in
    let bare : list_any gone c.self.inside.tied ≡ false =
    any_below gone (λ (s : KeySpot). same (term c.args.key) s.0) c.self.inside.tied (λ s e. ap (λ b. b && is_holding (c.args.age, c.args.write) s.1) e)
    (sym c.has.ensures ∙ c.if-has.false) in
    let none : Drops gone c.self.inside.tied c.self.inside.tied = λ q. sym (any_but q gone c.self.inside.tied bare) in
    dropped_joined gone c.self.inside.first c.remove.new.self c.self.inside.tied c.self.inside.tied c.remove.ensures none p
    ∙ ap (list_any (λ (s : KeySpot). p s && not (gone s))) c.self.view_is
