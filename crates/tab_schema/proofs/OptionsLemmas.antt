-- Options as the program looks for them, and as the definitions do.
use Rattle.std.proofs.Common.{Bor, ◌≡◌, ℕ, ◌+◌, ◌<◌, List, [], ◌∷◌, ◌++◌, Option, Some, None, Bool, true, false, ◌||◌, not, if◌then◌else◌, is_some, length, take, drop, get_or, refl, sym, ap, ◌∙◌}
use Rattle.std.proofs.lemmas.List.{take_more, at_drop_more}
use Rattle.tab_term.specs.Data.{PlainTerm}
use Rattle.tab_term.specs.View.{term, terms}
use Rattle.tab_term.specs.declared.term.Term.{Term}
use Rattle.tab_model.specs.Names.{has_name}
use Rattle.tab_model.specs.Definitions.{value_of, value_in, option_name, with_name, is_named, bad_option, is_new_name}
use Rattle.std.specs.Option.{option_copied}
use Rattle.tab_schema.specs.Options.{first_value, option_term}

abbrev pub or_else : PlainTerm → Option PlainTerm → PlainTerm
or_else other None = other
or_else other (Some t) = t

pub value_is : (tab n : List ℕ) (other : PlainTerm) (os : List Term) → value_of tab n other (terms os) ≡ or_else other (first_value tab n os)
value_is tab n other [] = refl
value_is tab n other (o ∷ os) = cases (is_named n (option_name tab (term o))) (value_is tab n other os)
  where
    cases : (b : Bool) → value_of tab n other (terms os) ≡ or_else other (first_value tab n os)
        → (if b then value_in (term o) else value_of tab n other (terms os)) ≡ or_else other (if b then Some (value_in (term o)) else first_value tab n os)
    cases true p = refl
    cases false p = p

-- the names of options, the last first
abbrev pub names_after : List ℕ → List (List ℕ) → List Term → List (List ℕ)
names_after tab seen [] = seen
names_after tab seen (o ∷ os) = names_after tab (with_name seen (option_name tab (term o))) os

names_push : (tab : List ℕ) (seen : List (List ℕ)) (os : List Term) (o : Term) → names_after tab seen (os ++ o ∷ []) ≡ with_name (names_after tab seen os) (option_name tab (term o))
names_push tab seen [] o = refl
names_push tab seen (x ∷ os) o = names_push tab (with_name seen (option_name tab (term x))) os o

-- a name is among them exactly where an option of that name is found, or it was there before
is_among : (tab n : List ℕ) (seen : List (List ℕ)) (os : List Term) → has_name (names_after tab seen os) n ≡ (has_name seen n || is_some (first_value tab n os))
is_among tab n seen [] = or_no (has_name seen n)
  where
    or_no : (b : Bool) → b ≡ (b || false)
    or_no true = refl
    or_no false = refl
is_among tab n seen (o ∷ os) = is_among tab n (with_name seen (option_name tab (term o))) os ∙ named (option_name tab (term o))
  where
    cases : (a b c : Bool) (v : PlainTerm) (rest : Option PlainTerm) → c ≡ is_some rest → ((a || b) || c) ≡ (b || is_some (if a then Some v else rest))
    cases true true c v rest p = refl
    cases true false c v rest p = refl
    cases false true c v rest p = refl
    cases false false c v rest p = p

    named : (m : Option (List ℕ)) → (has_name (with_name seen m) n || is_some (first_value tab n os)) ≡ (has_name seen n || is_some (if is_named n m then Some (value_in (term o)) else first_value tab n os))
    named None = refl
    named (Some s) = cases (is_named n (Some s)) (has_name seen n) (is_some (first_value tab n os)) (value_in (term o)) (first_value tab n os) refl

-- the option at n, where its name is known
step_at : (tab n : List ℕ) (options : List Term) (i : ℕ) (o : Term) (b : Bool) → i < length options → o ≡ get_or options i o → option_name tab (term o) ≡ Some n → is_some (first_value tab n (take i options)) ≡ b
    → bad_option tab (names_after tab [] (take i options)) (terms (drop i options)) ≡ (if not b then bad_option tab (n ∷ names_after tab [] (take i options)) (terms (drop (i + 1) options)) else Some (term o))
step_at tab n options i o b h is named found =
    at_drop_more (λ us. bad_option tab (names_after tab [] (take i options)) (terms us)) options i o h
    ∙ ap (λ t. bad_option tab (names_after tab [] (take i options)) (terms (t ∷ drop (i + 1) options))) (sym is)
    ∙ ap (λ m. if is_new_name (names_after tab [] (take i options)) m then bad_option tab (with_name (names_after tab [] (take i options)) m) (terms (drop (i + 1) options)) else Some (term o)) named
    ∙ ap (λ a. if not a then bad_option tab (n ∷ names_after tab [] (take i options)) (terms (drop (i + 1) options)) else Some (term o)) (is_among tab n [] (take i options) ∙ found)

pub second_one : (tab n : List ℕ) (options : List Term) (i : ℕ) (o : Term) (all : Option PlainTerm) → i < length options → o ≡ get_or options i o → option_name tab (term o) ≡ Some n → is_some (first_value tab n (take i options)) ≡ true
    → bad_option tab (names_after tab [] (take i options)) (terms (drop i options)) ≡ all → Some (term o) ≡ all
second_one tab n options i o all h is named found before = sym (step_at tab n options i o true h is named found) ∙ before

pub next_option : (tab n : List ℕ) (options : List Term) (i : ℕ) (o : Term) (all : Option PlainTerm) → i < length options → o ≡ get_or options i o → option_name tab (term o) ≡ Some n → is_some (first_value tab n (take i options)) ≡ false
    → bad_option tab (names_after tab [] (take i options)) (terms (drop i options)) ≡ all
    → bad_option tab (names_after tab [] (take (i + 1) options)) (terms (drop (i + 1) options)) ≡ all
next_option tab n options i o all h is named found before =
    ap (λ us. bad_option tab (names_after tab [] us) (terms (drop (i + 1) options))) (take_more options i o h ∙ ap (λ x. take i options ++ x ∷ []) (sym is))
    ∙ ap (λ ns. bad_option tab ns (terms (drop (i + 1) options))) (names_push tab [] (take i options) o ∙ ap (with_name (names_after tab [] (take i options))) named)
    ∙ sym (step_at tab n options i o false h is named found)
    ∙ before

-- whether a value was found
pub is_found : (r : Option (Bor Term)) (f : Option PlainTerm) (a b : Bool) → option_term (option_copied r) ≡ f → a ≡ is_some r → a ≡ b → is_some f ≡ b
is_found None f a b p q h = ap is_some (sym p) ∙ sym q ∙ h
is_found (Some t) f a b p q h = ap is_some (sym p) ∙ sym q ∙ h
