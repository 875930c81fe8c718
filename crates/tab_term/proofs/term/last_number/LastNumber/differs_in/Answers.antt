use Rattle.std.proofs.Common.{rules, ◌≡◌, false, sym, ap, ap₂, ◌∙◌}
use Rattle.tab_term.specs.Data.{tuple}
use Rattle.tab_term.specs.Pattern.{matches}
use Rattle.tab_term.specs.View.{term}
use Rattle.tab_term.specs.declared.term.Term.TheVariants.{Int}
use Rattle.tab_term.proofs.Lists.{unlike_at}
use Rattle.tab_term.proofs.term.last_number.LastNumber.differs_in.Goals as goal

pub returns-in-Some-Int : goal.returns-in-Some-Int
returns-in-Some-Int c h =
    let found = c.in-Some-Int.ensures.lookup in
    let fails : matches (term (Int c.self.inside.number)) (term c.in-Some-Int.field-0.now) ≡ false = rw c.in-Some-Int.field-0-is (search rules) in
    let unlike = unlike_at c.self.inside.elements.now c.as_slice.result.now c.self.inside.place (Int c.self.inside.number) c.in-Some-Int.field-0.now c.self.invariant.0 found.3.0 c.self.invariant.1 found.1 fails in
    ap₂ matches (sym c.self.view_is) (ap term c.in-Tuple.is ∙ ap tuple (sym c.as_slice.ensures.items)) ∙ unlike
