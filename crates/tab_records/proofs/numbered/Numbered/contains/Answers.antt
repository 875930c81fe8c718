use Rattle.std.proofs.Common.{◌≡◌, [], ap, ◌∙◌, subst}
use Rattle.std.specs.Prelude.{MatchOption, is_some}
use Rattle.std.specs.List.{list_any}
use Rattle.tab_term.specs.Order.{term_cmp}
use Rattle.tab_term.specs.Same.{same}
use Rattle.tab_term.specs.View.{term}
use Rattle.tab_map.specs.Entries.{lookup}
use Rattle.tab_records.specs.declared.numbered.Numbers.{Numbers}
use Rattle.tab_records.specs.Numbers.{IsNumbered}
use Rattle.tab_records.proofs.NumbersLemmas.{is_found}
use Rattle.tab_records.proofs.numbered.Numbered.contains.Goals as goal

pub returns-in-Some : goal.returns-in-Some
returns-in-Some c =
    let kept = subst (λ o. MatchOption o (c.self.inside.by_number ≡ []) (λ n. IsNumbered c.self.inside.by_number n.value.by_record n.value.next n.value.count)) c.in-Some.is c.self.invariant in
    c.contains_key.ensures.found ∙ ap (λ (n : Numbers). is_some (lookup term_cmp c.args.row.now n.by_record)) c.deref.ensures
    ∙ ap is_some (IsNumbered.found kept c.args.row.now) ∙ is_found (term c.args.row.now) c.self.inside.by_number
    ∙ ap (list_any (same (term c.args.row.now))) c.self.view_is
