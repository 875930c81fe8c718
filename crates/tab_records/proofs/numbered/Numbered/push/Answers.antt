use Rattle.std.proofs.Common.{rules, ◌≡◌, ◌++◌, ◌∷◌, [], ℕ, sym, ap, ap₂, ◌∙◌, subst}
use Rattle.std.specs.List.{list_any}
use Rattle.std.specs.Ordering.{nat_cmp}
use Rattle.tab_term.specs.Order.{term_cmp}
use Rattle.tab_term.specs.Same.{same}
use Rattle.tab_term.specs.View.{term}
use Rattle.tab_map.specs.Entries.{insert_entry}
use Rattle.tab_records.specs.declared.numbered.Numbers.{Numbers}
use Rattle.tab_records.specs.Numbers.{Entry, records_in, IsNumbered}
use Rattle.tab_records.proofs.NumbersLemmas.{push_in, push_numbered}
use Rattle.tab_records.proofs.numbered.Numbered.push.Goals as goal

pub invariant_of-self-2 : goal.invariant_of-self-2
invariant_of-self-2 c =
    let n = c.in_ok-by_record.field-0.next in
    let es = c.self.inside.by_number in
    let t = c.in_ok-entry.entry.1.0 in
    let e = c.in_ok-entry.ensures in
    let is : c.in_ok-entry.entry ≡ (n, (t, n)) = ap₂ (λ (a b : ℕ). (a, (t, b))) e.0 e.2 in
    subst (λ (m : Numbers). IsNumbered c.insert_entry-2.new.self m.by_record m.next m.count) (sym c.in_ok-more.ensures.ok)
    (push_numbered n t es c.insert_entry-2.new.self c.in_ok-by_record.field-0.by_record c.insert_entry.new.self c.in_ok-by_record.field-0.count c.in_ok-ok_or.field-0 c.in_ok-ok_or-2.field-0 c.in_ok-by_record.ensures
    (ap (list_any (same (term t))) c.self.view_is ∙ ap (λ r. list_any (same r) c.args.self.now) e.1 ∙ c.requires)
    (c.in_ok-insert_entry-2.ensures.ok ∙ ap (λ x. insert_entry nat_cmp x es) is)
    (c.in_ok-insert_entry.ensures.ok ∙ ap (λ x. insert_entry term_cmp x c.in_ok-by_record.field-0.by_record) (c.in_ok-try_clone.ensures ∙ ap (λ x. x.1) c.pair.ensures ∙ ap (λ (x : Entry). x.1) is))
    (search rules) (search rules))

pub returns-clause-ok : goal.returns-clause-ok
returns-clause-ok c =
    let n = c.in_ok-by_record.field-0.next in
    let es = c.self.inside.by_number in
    let t = c.in_ok-entry.entry.1.0 in
    let e = c.in_ok-entry.ensures in
    let is : c.in_ok-entry.entry ≡ (n, (t, n)) = ap₂ (λ (a b : ℕ). (a, (t, b))) e.0 e.2 in
    ap records_in (c.in_ok-insert_entry-2.ensures.ok ∙ ap (λ x. insert_entry nat_cmp x es) is)
    ∙ push_in n t es (IsNumbered.below c.in_ok-by_record.ensures) ∙ ap (λ ts. ts ++ term t ∷ []) c.self.view_is ∙ ap (λ r. c.args.self.now ++ r ∷ []) e.1
