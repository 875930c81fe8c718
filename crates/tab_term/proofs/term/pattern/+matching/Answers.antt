use Rattle.std.proofs.Common.{refl, sym, ap, ap₂, ◌∙◌, ◌-◌, arith}
use Rattle.tab_term.specs.Pattern.{matches, all_match}
use Rattle.tab_term.specs.View.{terms}
use Rattle.tab_term.proofs.Lists.{match_lengths_differ, last_pass, last_fail, all_taken, none_taken}
use Rattle.tab_term.proofs.term.pattern.+matching.Goals as goal

pub all_match-returns-then-patterns-subjects : goal.all_match-returns-then-patterns-subjects
all_match-returns-then-patterns-subjects t c =
    let differ = rw (c.as_slice-patterns.ensures.value, c.as_slice-subjects.ensures.value) at c.if-patterns-subjects.true in
    rw (← c.patterns.view_is, ← c.subjects.view_is) (sym (match_lengths_differ _ _ differ))

pub all_match-loop-i-init : goal.all_match-loop-i-init
all_match-loop-i-init t c = all_taken matches all_match refl (λ x y xs ys. refl) c.as_slice-patterns.result.now c.as_slice-subjects.result.now c.if-patterns-subjects.false

pub all_match-loop-i-preserved : goal.all_match-loop-i-preserved
all_match-loop-i-preserved t c =
    let back = last_pass matches all_match refl (λ x y xs ys. refl) c.as_slice-patterns.result.now c.as_slice-subjects.result.now c.loop-i.i (c.loop-i.i - 1) c.index-patterns-i.result c.index-subjects-i.result (omega (arith, c.loop-i-test.true)) (omega (arith, c.loop-i.auto.i)) c.if-patterns-subjects.false c.index-patterns-i.is c.index-subjects-i.is (sym c.element_matches.ensures ∙ c.if-not-element_matches.false) in
    sym back ∙ c.loop-i.invariant

pub all_match-returns-then-not-element_matches : goal.all_match-returns-then-not-element_matches
all_match-returns-then-not-element_matches t c =
    let back = last_fail matches all_match refl (λ x y xs ys. refl) c.as_slice-patterns.result.now c.as_slice-subjects.result.now c.loop-i.i (c.loop-i.i - 1) c.index-patterns-i.result c.index-subjects-i.result (omega (arith, c.loop-i-test.true)) (omega (arith, c.loop-i.auto.i)) c.if-patterns-subjects.false c.index-patterns-i.is c.index-subjects-i.is (sym c.element_matches.ensures ∙ c.if-not-element_matches.true) in
    let differ = sym c.loop-i.invariant ∙ back in
    sym (ap₂ all_match (sym (ap terms c.as_slice-patterns.ensures.value ∙ c.patterns.view_is)) (sym (ap terms c.as_slice-subjects.ensures.value ∙ c.subjects.view_is)) ∙ differ)

pub all_match-returns : goal.all_match-returns
all_match-returns t c =
    let all = sym c.loop-i.invariant ∙ none_taken matches all_match refl (λ x y xs ys. refl) c.as_slice-patterns.result.now c.as_slice-subjects.result.now c.loop-i.i (omega (arith, c.loop-i-test.false)) in
    sym (ap₂ all_match (sym (ap terms c.as_slice-patterns.ensures.value ∙ c.patterns.view_is)) (sym (ap terms c.as_slice-subjects.ensures.value ∙ c.subjects.view_is)) ∙ all)
