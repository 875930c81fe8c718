-- Where the canonical spelling is one that is read, no other term comes back.
use Rattle.std.proofs.Common.{◌≡◌, ◌∷◌, ◌++◌, [], List, ℕ, true, not, sym, ap, ◌∙◌}
use Rattle.std.proofs.lemmas.Bool.{false≢true}
use Rattle.tab_term.specs.Canon.{canon}
use Rattle.tab_term.specs.Data.{PlainTerm}
use Rattle.tab_term.specs.Same.{same, same-Decides}
use Rattle.tab_term.specs.View.{term}
use Rattle.tab_uses.proofs.spelling.term_again.Goals as goal

are_two : (a b : PlainTerm) → true ≡ not (same a b) → a ≡ b → ⊥
are_two a b e q = false≢true (sym (e ∙ ap not ((same-Decides a b).1 q)))

behind_version : (x y : List ℕ) → 131 ∷ x ≡ 131 ∷ y → x ≡ y
behind_version x y e = cc

pub returns-then-ne-clause-comes_back : goal.returns-then-ne-clause-comes_back
returns-then-ne-clause-comes_back c = λ spelled within.
    let again = term c.in_ok-again.again in
    let value = term c.args.value.now in
    let found = c.in_ok-again.ensures.found in
    let written = sym found.1 ∙ c.deref.ensures.value ∙ c.in_ok-encode.ensures.ok ∙ ap (λ (x : List ℕ). x ++ 131 ∷ canon value) c.new-payload.ensures.items in
    let text = behind_version found.0 (canon value) written in
    let apart = c.spellings_are_apart.ensures again value found.0 (canon value) [] [] found.2 spelled (ap (λ (x : List ℕ). x ++ []) text) in
    are_two again value c.if-ne.ensures apart.1
