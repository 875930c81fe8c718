use Rattle.std.proofs.Common.{◌≡◌, ◌<◌, ℕ, zero, suc, ◌-◌, sym, ap, ◌∙◌, refl, subst, arith}
use Rattle.std.proofs.lemmas.Bool.{false≢true}
use Rattle.std.specs.Option.{option_copied}
use Rattle.tab_term.specs.Order.{term_cmp}
use Rattle.tab_term.specs.View.{term}
use Rattle.tab_map.specs.Entries.{insert_entry, lookup}
use Rattle.tab_index.specs.FurtherOf.{counts_in, count_of, IsLowered}
use Rattle.tab_index.proofs.FurtherLemmas.{lowered, lowered_last, none_lowered}
use Rattle.tab_index.proofs.further.Further.lower.Goals as goal

none_above : (n : ℕ) → n ≡ 0 → (0 < n → ⊥)
none_above n e h = omega (arith, e, h)

some_above : (n m : ℕ) → n ≡ m → (n ≡ 0 → ⊥) → 0 < m
some_above n m e h = cases m e
  where
    cases : (m : ℕ) → n ≡ m → 0 < m
    cases zero e = absurd (h e)
    cases (suc m) e = omega arith

pub returns-in_default-clause-lowered : goal.returns-in_default-clause-lowered
returns-in_default-clause-lowered c =
    let found = sym c.get.ensures.value ∙ ap option_copied c.in_default.is in
    none_lowered c.args.self.now.by_key c.args.value.now c.args.key.now (ap (λ o. count_of (lookup term_cmp c.args.value.now (counts_in o))) found)

pub returns-in_default-clause-further : goal.returns-in_default-clause-further
returns-in_default-clause-further c =
    let found = sym c.get.ensures.value ∙ ap option_copied c.in_default.is in
    let none = ap (λ o. count_of (lookup term_cmp c.args.value.now (counts_in o))) found in
    ((λ h. absurd (false≢true h)), (λ l. absurd (none_above _ none l)))

pub returns-then-count-eq0-clause-lowered : goal.returns-then-count-eq0-clause-lowered
returns-then-count-eq0-clause-lowered c =
    let found = ap option_copied (sym c.in-Some.is) ∙ c.get.ensures.value in
    none_lowered c.args.self.now.by_key c.args.value.now c.args.key.now
    (ap (λ o. count_of (lookup term_cmp c.args.value.now (counts_in o))) (sym found) ∙ sym c.count_in-count.ensures.count ∙ c.if-count-eq0.true)

pub returns-then-count-eq0-clause-further : goal.returns-then-count-eq0-clause-further
returns-then-count-eq0-clause-further c =
    let found = ap option_copied (sym c.in-Some.is) ∙ c.get.ensures.value in
    let none = ap (λ o. count_of (lookup term_cmp c.args.value.now (counts_in o))) (sym found) ∙ sym c.count_in-count.ensures.count ∙ c.if-count-eq0.true in
    ((λ h. absurd (false≢true h)), (λ l. absurd (none_above _ none l)))

pub returns-then-is_empty-clause-lowered : goal.returns-then-is_empty-clause-lowered
returns-then-is_empty-clause-lowered c =
    let ms = c.args.self.now.by_key in
    let v = c.args.value.now in
    let k = c.args.key.now in
    let found = ap option_copied (sym c.in-Some.is) ∙ c.get.ensures.value in
    subst (λ ns. IsLowered ms ns (term v) (term k)) (sym c.in_ok-remove.ensures.ok)
    (lowered_last ms v k c.in-Some.counts.now c.in_ok-left.left _ c.get.ensures.ascends (ap counts_in found) (ap (λ n. n - 1) c.count_in-count.ensures.count) c.in_ok-left.ensures (c.is_empty.ensures.empty.0 c.if-is_empty.true))

pub returns-then-is_empty-clause-further : goal.returns-then-is_empty-clause-further
returns-then-is_empty-clause-further c =
    let found = ap option_copied (sym c.in-Some.is) ∙ c.get.ensures.value in
    let is = c.count_in-count.ensures.count ∙ ap (λ o. count_of (lookup term_cmp c.args.value.now (counts_in o))) found in
    ((λ h. some_above _ _ is c.if-count-eq0.false), (λ l. refl))

pub returns-clause-lowered : goal.returns-clause-lowered
returns-clause-lowered c =
    let ms = c.args.self.now.by_key in
    let v = c.args.value.now in
    let k = c.args.key.now in
    let ds = c.in_ok-left.left in
    let found = ap option_copied (sym c.in-Some.is) ∙ c.get.ensures.value in
    subst (λ ns. IsLowered ms ns (term v) (term k)) (sym (c.in_ok-insert.ensures.ok ∙ ap (λ x. insert_entry term_cmp (x, ds) ms) c.in_ok-try_clone.ensures))
    (lowered ms v k c.in-Some.counts.now ds _ c.get.ensures.ascends (ap counts_in found) (ap (λ n. n - 1) c.count_in-count.ensures.count) c.in_ok-left.ensures
    (λ e. false≢true (sym c.if-is_empty.false ∙ c.is_empty.ensures.empty.1 e)))

pub returns-clause-further : goal.returns-clause-further
returns-clause-further c =
    let found = ap option_copied (sym c.in-Some.is) ∙ c.get.ensures.value in
    let is = c.count_in-count.ensures.count ∙ ap (λ o. count_of (lookup term_cmp c.args.value.now (counts_in o))) found in
    ((λ h. some_above _ _ is c.if-count-eq0.false), (λ l. refl))
