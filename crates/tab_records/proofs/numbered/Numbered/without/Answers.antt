use Rattle.std.proofs.Common.{◌≡◌, [], sym, ap, ◌∙◌, subst}
use Rattle.std.specs.Prelude.{IfOk, MatchOption, is_some}
use Rattle.std.specs.Option.{option_copied}
use Rattle.tab_term.specs.View.{term}
use Rattle.tab_records.specs.declared.numbered.Numbers.{Numbers}
use Rattle.tab_records.specs.Numbers.{IsNumbered}
use Rattle.tab_records.proofs.NumbersLemmas.{others, others_in, less_numbered, one_at_least, none_missing}
use Rattle.tab_records.proofs.numbered.Numbered.without.Goals as goal

pub overflow_sub-less : goal.overflow_sub-less
overflow_sub-less c =
    let es = c.self.inside.by_number in
    let n = c.deref-numbers.result.now in
    let kept = subst (λ (n : Numbers). IsNumbered es n.by_record n.next n.count) (sym c.deref-numbers.ensures)
    (subst (λ o. MatchOption o (c.self.inside.by_number ≡ []) (λ n. IsNumbered c.self.inside.by_number n.value.by_record n.value.next n.value.count)) c.in-Some.is c.self.invariant) in
    let found = sym (IsNumbered.found kept c.args.row.now) ∙ sym c.get.ensures.value ∙ ap option_copied c.in-Some-get.is in
    one_at_least c.args.row.now c.in-Some-get.number.now es c.in_ok-by_number.by_number kept.ascends kept.apart found c.in_ok-by_number.ensures n.by_record n.next n.count kept

pub returns-in_default-get : goal.returns-in_default-get
returns-in_default-get c =
    let es = c.self.inside.by_number in
    let n = c.deref-numbers.result.now in
    let kept = subst (λ (n : Numbers). IsNumbered es n.by_record n.next n.count) (sym c.deref-numbers.ensures)
    (subst (λ o. MatchOption o (c.self.inside.by_number ≡ []) (λ n. IsNumbered c.self.inside.by_number n.value.by_record n.value.next n.value.count)) c.in-Some.is c.self.invariant) in
    let missing = ap is_some (sym (IsNumbered.found kept c.args.row.now) ∙ sym c.get.ensures.value ∙ ap option_copied c.in_default-get.is) in
    subst (λ ts. IfOk c.share-in_default-get.result (λ left. left ≡ ts))
    (sym c.self.view_is ∙ sym (none_missing (term c.args.row.now) es missing) ∙ ap (others (term c.args.row.now)) c.self.view_is) c.share-in_default-get.ensures

pub invariant_of-result : goal.invariant_of-result
invariant_of-result c =
    let es = c.self.inside.by_number in
    let n = c.deref-numbers.result.now in
    let kept = subst (λ (n : Numbers). IsNumbered es n.by_record n.next n.count) (sym c.deref-numbers.ensures)
    (subst (λ o. MatchOption o (c.self.inside.by_number ≡ []) (λ n. IsNumbered c.self.inside.by_number n.value.by_record n.value.next n.value.count)) c.in-Some.is c.self.invariant) in
    let found = sym (IsNumbered.found kept c.args.row.now) ∙ sym c.get.ensures.value ∙ ap option_copied c.in-Some-get.is in
    subst (λ (m : Numbers). IsNumbered c.in_ok-by_number.by_number m.by_record m.next m.count) (sym c.in_ok-new.ensures.ok)
    (less_numbered c.args.row.now c.in-Some-get.number.now es c.in_ok-by_number.by_number kept.ascends kept.apart found c.in_ok-by_number.ensures n.by_record c.in_ok-removed.field-0 n.next n.count kept c.in_ok-removed.ensures)

pub returns : goal.returns
returns c =
    let es = c.self.inside.by_number in
    let n = c.deref-numbers.result.now in
    let kept = subst (λ (n : Numbers). IsNumbered es n.by_record n.next n.count) (sym c.deref-numbers.ensures)
    (subst (λ o. MatchOption o (c.self.inside.by_number ≡ []) (λ n. IsNumbered c.self.inside.by_number n.value.by_record n.value.next n.value.count)) c.in-Some.is c.self.invariant) in
    let found = sym (IsNumbered.found kept c.args.row.now) ∙ sym c.get.ensures.value ∙ ap option_copied c.in-Some-get.is in
    others_in c.args.row.now c.in-Some-get.number.now es c.in_ok-by_number.by_number kept.ascends kept.apart found c.in_ok-by_number.ensures
    ∙ ap (others (term c.args.row.now)) c.self.view_is
