use Rattle.std.proofs.Common.{◌≡◌, [], sym, ap, ◌∙◌, length, subst}
use Rattle.std.specs.Prelude.{MatchOption}
use Rattle.tab_records.specs.declared.numbered.Numbers.{Numbers}
use Rattle.tab_records.specs.Numbers.{IsNumbered}
use Rattle.tab_records.proofs.NumbersLemmas.{length-in}
use Rattle.tab_records.proofs.numbered.Numbered.len.Goals as goal

pub returns-in-Some : goal.returns-in-Some
returns-in-Some c =
    let kept = subst (λ o. MatchOption o (c.self.inside.by_number ≡ []) (λ n. IsNumbered c.self.inside.by_number n.value.by_record n.value.next n.value.count)) c.in-Some.is c.self.invariant in
    ap (λ (n : Numbers). n.count) c.deref.ensures ∙ IsNumbered.counted kept ∙ sym (length-in c.self.inside.by_number) ∙ ap length c.self.view_is
