-- Parts one after another, and the operations that they say.
use Rattle.std.proofs.Common.{◌≡◌, ℕ, suc, zero, ◌≤◌, List, [], ◌∷◌, ◌++◌, Bool, true, false, ◌&&◌, refl, sym, ap, ◌∙◌, subst, append-nil, append_assoc}
use Rattle.std.proofs.Common.{arith, Result, Ok, Err, OnOk}
use Rattle.tab_proto.specs.declared.fault.ProtoFault.{ProtoFault}
use Rattle.tab_proto.specs.declared.fault.ProtoFault.TheVariants.{BadCommand, NoMemory}
use Rattle.std.specs.Prelude.{codes, pos, nat_le}
use Rattle.tab_model.specs.declared.data.Command.TheVariants as command
use Rattle.std.specs.List.{list_all}
use Rattle.tab_term.specs.Data.{PlainTerm, int, atom, list, PlainTerms, none, one_more, pair, triple, weight, nodes}
use Rattle.tab_term.specs.View.{term, terms}
use Rattle.tab_term.specs.declared.term.Term.{Term}
use Rattle.tab_term.proofs.Lists.{push, terms-push}
use Rattle.tab_model.specs.declared.data.Operation.{Operation}
use Rattle.tab_model.specs.declared.data.Part.{Part}
use Rattle.tab_model.specs.declared.data.Part.TheVariants as part
use Rattle.tab_proto.specs.Commands.{operation_term, abort_term, with_first, enclosed, levels, outermost, is_nested, is_part, is_operation}
use Rattle.tab_proto.specs.Reading.{is_part_term, are_parts, with_all, Spells, RefusesOnlyIf, SaysOperations, AddsParts}

all-append : (xs ys : List Part) → list_all is_part xs ≡ true → list_all is_part ys ≡ true → list_all is_part (xs ++ ys) ≡ true
all-append [] ys h k = k
all-append (x ∷ xs) ys h k = and_both (is_part x) (list_all is_part xs) (list_all is_part (xs ++ ys)) h (λ e. all-append xs ys e k)
  where
    and_both : (a b c : Bool) → (a && b) ≡ true → (b ≡ true → c ≡ true) → (a && c) ≡ true
    and_both true b c e f = f e
    and_both false b c e f = cc

with_all-push : (ts : PlainTerms) (t : PlainTerm) (outer : List PlainTerms) → with_all (push ts t) outer ≡ with_all ts (with_first t outer)
with_all-push none t outer = refl
with_all-push (one_more u ts) t outer = ap (with_first u) (with_all-push ts t outer)

pub says_none : SaysOperations [] none
says_none = record { levels = λ rest. refl; nested = λ n rest. refl; formed = refl }

pub adds_none : (old : List Part) → AddsParts old old none
adds_none old = ([], sym (append-nil old), says_none)

says_then : (xs ys : List Part) (ts : PlainTerms) (t : PlainTerm) → SaysOperations xs ts → SaysOperations ys (one_more t none) → SaysOperations (xs ++ ys) (push ts t)
says_then xs ys ts t h k = record {
  levels = λ rest. ap levels (append_assoc xs ys rest) ∙ h.levels (ys ++ rest) ∙ ap (with_all ts) (k.levels rest) ∙ sym (with_all-push ts t (levels rest));
  nested = λ n rest. ap (is_nested n) (append_assoc xs ys rest) ∙ h.nested n (ys ++ rest) ∙ k.nested n rest;
  formed = all-append xs ys h.formed k.formed;
}

-- the members that were read, and those that are left
pub record AreRead (members : PlainTerms) (old now : List Part) (left : List Term) : Type 0 where
  pub done : List Term
  pub whole : terms (done ++ left) ≡ members
  pub adds : AddsParts old now (terms done)

pub none_read : (members : PlainTerms) (ms : List Term) (old : List Part) → terms ms ≡ members → AreRead members old old ms
none_read members ms old e = record { done = []; whole = e; adds = adds_none old }

pub one_read : (members : PlainTerms) (old mid new : List Part) (m : Term) (left rest : List Term) → left ≡ m ∷ rest → AreRead members old mid left → AddsParts mid new (one_more (term m) none) → AreRead members old new rest
one_read members old mid new m left rest is r (ys, f, k) = record {
  done = r.done ++ m ∷ [];
  whole = ap terms (append_assoc r.done (m ∷ []) rest ∙ ap (λ l. r.done ++ l) (sym is)) ∙ r.whole;
  adds = joined r.adds;
}
  where
    joined : AddsParts old mid (terms r.done) → AddsParts old new (terms (r.done ++ m ∷ []))
    joined (xs, e, h) = (xs ++ ys, f ∙ ap (λ z. z ++ ys) e ∙ append_assoc old xs ys, subst (SaysOperations (xs ++ ys)) (sym (terms-push r.done m)) (says_then xs ys (terms r.done) (term m) h k))

pub all_read : (members : PlainTerms) (old now : List Part) (left : List Term) → left ≡ [] → AreRead members old now left → AddsParts old now members
all_read members old now left e r = subst (AddsParts old now) (ap terms (sym (append-nil r.done) ∙ ap (λ l. r.done ++ l) (sym e)) ∙ r.whole) r.adds

-- a member weighs no more than all
weight_in : (done : List Term) (m : Term) (rest : List Term) → weight (term m) ≤ nodes (terms (done ++ m ∷ rest))
weight_in [] m rest = omega arith
weight_in (x ∷ done) m rest = omega (arith, weight_in done m rest)

pub weight_left : (members : PlainTerms) (old now : List Part) (m : Term) (left rest : List Term) → left ≡ m ∷ rest → AreRead members old now left → weight (term m) ≤ nodes members
weight_left members old now m left rest is r =
    subst (λ ts. weight (term m) ≤ nodes ts) (ap (λ l. terms (r.done ++ l)) (sym is) ∙ r.whole) (weight_in r.done m rest)

-- one part
pub adds_operation : (old new : List Part) (o : Operation) (t : PlainTerm) → new ≡ old ++ part.Do o ∷ [] → operation_term o ≡ t → is_operation o ≡ true → AddsParts old new (one_more t none)
adds_operation old new o t e spelled formed = (
  part.Do o ∷ [],
  e,
  record { levels = λ rest. ap (λ u. with_first u (levels rest)) spelled; nested = does; formed = ap (λ b. b && true) formed },
)
  where
    does : (n : ℕ) (rest : List Part) → is_nested n (part.Do o ∷ rest) ≡ is_nested n rest
    does zero rest = refl
    does (suc n) rest = refl

pub adds_abort : (old new : List Part) (r : Term) → new ≡ old ++ part.Abort r ∷ [] → AddsParts old new (one_more (abort_term (term r)) none)
adds_abort old new r e = (part.Abort r ∷ [], e, record { levels = λ rest. refl; nested = aborts; formed = refl })
  where
    aborts : (n : ℕ) (rest : List Part) → is_nested n (part.Abort r ∷ rest) ≡ is_nested n rest
    aborts zero rest = refl
    aborts (suc n) rest = refl

-- an inner transaction
inner_first : (ts : PlainTerms) (outer : List PlainTerms) → with_all ts (none ∷ outer) ≡ ts ∷ outer
inner_first none outer = refl
inner_first (one_more t ts) outer = ap (with_first t) (inner_first ts outer)

pub adds_inner : (old opened inside new : List Part) (ts : PlainTerms) → opened ≡ old ++ part.Open ∷ [] → AddsParts opened inside ts → new ≡ inside ++ part.Close ∷ []
    → AddsParts old new (one_more (pair (atom (codes "transaction")) (list ts)) none)
adds_inner old opened inside new ts e (xs, f, h) g = (
  part.Open ∷ (xs ++ part.Close ∷ []),
  g ∙ ap (λ z. z ++ part.Close ∷ []) (f ∙ ap (λ z. z ++ xs) e ∙ append_assoc old (part.Open ∷ []) xs) ∙ append_assoc old (part.Open ∷ xs) (part.Close ∷ []),
  record {
    levels = λ rest. ap enclosed (ap levels (append_assoc xs (part.Close ∷ []) rest) ∙ h.levels (part.Close ∷ rest) ∙ inner_first ts (levels rest));
    nested = encloses;
    formed = all-append xs (part.Close ∷ []) h.formed refl;
  },
)
  where
    closes : (n : ℕ) (rest : List Part) → is_nested (suc n) ((xs ++ part.Close ∷ []) ++ rest) ≡ is_nested n rest
    closes n rest = ap (is_nested (suc n)) (append_assoc xs (part.Close ∷ []) rest) ∙ h.nested (suc n) (part.Close ∷ rest)

    encloses : (n : ℕ) (rest : List Part) → is_nested n ((part.Open ∷ (xs ++ part.Close ∷ [])) ++ rest) ≡ is_nested n rest
    encloses zero rest = closes zero rest
    encloses (suc n) rest = closes (suc n) rest

-- a member that is no part
no_part_in : (done : List Term) (m : Term) (rest : List Term) → is_part_term (term m) ≡ false → are_parts (terms (done ++ m ∷ rest)) ≡ false
no_part_in [] m rest h = ap (λ b. b && are_parts (terms rest)) h
no_part_in (x ∷ done) m rest h = ap (λ b. is_part_term (term x) && b) (no_part_in done m rest h) ∙ none_of (is_part_term (term x))
  where
    none_of : (b : Bool) → (b && false) ≡ false
    none_of true = refl
    none_of false = refl

-- a member that is refused refuses the list
pub refuses_list : (members : PlainTerms) (old now : List Part) (m : Term) (left rest : List Term) (e : ProtoFault) → left ≡ m ∷ rest → AreRead members old now left → RefusesOnlyIf {A = Unit {0}} (is_part_term (term m) ≡ false) (Err e) → RefusesOnlyIf {A = Unit {0}} (are_parts members ≡ false) (Err e)
refuses_list members old now m left rest BadCommand is r h = subst (λ ts. are_parts ts ≡ false) (ap (λ l. terms (r.done ++ l)) (sym is) ∙ r.whole) (no_part_in r.done m rest h)
refuses_list members old now m left rest NoMemory is r h = tt

pub on_ok : {E : Type 0} (r : Result (Unit {0}) E) (A B : Type 0) → (A → B) → OnOk r A → OnOk r B
on_ok (Ok u) A B f h = f h
on_ok (Err e) A B f h = tt

-- a one-shot of these parts
pub one_shot_is : (old parts : List Part) (ts us : PlainTerms) (m r : PlainTerm) (n : ℕ) → old ≡ [] → AddsParts old parts us → us ≡ ts → m ≡ list ts → r ≡ int (pos n) → nat_le n 1000 ≡ true
    → Spells (command.OneShot parts n) (triple (atom (codes "transaction")) m r)
one_shot_is old parts ts us m r n none_before (xs, e, h) same first second few = (
  ap (λ z. triple (atom (codes "transaction")) (list (outermost (levels z))) (int (pos n))) whole
      ∙ ap (λ z. triple (atom (codes "transaction")) (list z) (int (pos n))) (ap outermost (h.levels [] ∙ inner_first us []) ∙ same)
      ∙ (λ i. triple (atom (codes "transaction")) (sym first i) (sym second i)),
  both (nat_le n 1000) (is_nested 0 parts) (list_all is_part parts) few (ap (is_nested 0) whole ∙ h.nested 0 []) (ap (list_all is_part) (e ∙ ap (λ z. z ++ xs) none_before) ∙ h.formed),
)
  where
    whole : parts ≡ xs ++ []
    whole = e ∙ ap (λ z. z ++ xs) none_before ∙ sym (append-nil xs)

    both : (a b c : Bool) → a ≡ true → b ≡ true → c ≡ true → (a && (b && c)) ≡ true
    both true true c h k l = l
    both true false c h k l = cc
    both false b c h k l = cc
