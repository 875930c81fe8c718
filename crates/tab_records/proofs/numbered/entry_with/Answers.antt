use Rattle.std.proofs.Common.{sym, ap, ◌∙◌}
use Rattle.tab_term.specs.Same.{same-Decides}
use Rattle.tab_term.specs.View.{term}
use Rattle.tab_records.proofs.numbered.entry_with.Goals as goal

pub returns-then-eq : goal.returns-then-eq
returns-then-eq c =
    let is = sym c.pair.ensures in
    let held = sym c.pair-2.ensures in (
      ap (λ e. e.0) is ∙ c.if-place-number.true,
      ap (λ e. term e.1.0) is ∙ ap (λ h. term h.0) held ∙ (same-Decides _ _).0 (sym c.eq.ensures ∙ c.if-eq.true),
      ap (λ e. e.1.1) is ∙ ap (λ h. h.1) held ∙ c.if-own-number.true,
    )
