-- What the parser's getters read, by the rows of its matches.
use Rattle.std.proofs.Common.{◌≡◌, ◌∙◌, ◌<◌, ◌≤◌, ◌^◌, ℕ, List, [], ◌∷◌, Option, Some, None, ap, sym, refl, subst, arith, inl, inr}
use Rattle.std.specs.Prelude.{Result, Ok, Err, IsErrAnd}
use Rattle.clap.specs.declared.error.Error.{Error}
use Rattle.std.specs.Str.Parse.{ParsesUnsigned}
use Rattle.clap.proofs.WalkLemmas.{one_text-rows}
use Rattle.clap.specs.declared.parser.matches.Found.{Found}
use Rattle.clap.specs.Kinds.{or_else}
use Rattle.clap.specs.Words.{FailsBy, HasKind, IsUnsignedIn, Kinds, ReadsOne, Row, Text, one_text, rows_of}
use Rattle.tab_words.specs.Asked.{IsNumberOf, MayBeNumberOf, number_in}

-- a text of a number in its range is read as that number
number_read : {E : Type 0} (G : Text → Result ℕ E → Type 0) (k low high : ℕ) (t : Text) (r : Option ℕ) → ((u : Text) (x : Result ℕ E) → G u x → ParsesUnsigned k 10 u x) → high < 2 ^ k → IsUnsignedIn low high t → ReadsOne G t r → r ≡ Some (number_in t)
number_read G k low high t (Some v) parses fits i h = ap Some (parses t (Ok v) h).1
number_read G k low high t None parses fits i h =
    let most = i.3 in
    absurd (parses t (Err h.0) h.1 (i.0, omega (arith, most, fits)))

pub may_be : {E : Type 0} (G : Text → Result ℕ E → Type 0) (k low high : ℕ) (f : Found) (name : Text) (r : Option ℕ) → ((u : Text) (x : Result ℕ E) → G u x → ParsesUnsigned k 10 u x) → high < 2 ^ k
    → (one_text f name ≡ None → r ≡ None) → ((t : Text) → one_text f name ≡ Some t → ReadsOne G t r) → MayBeNumberOf name low high (rows_of f) r
may_be G k low high f name r parses fits none value = record {
  absent = λ e. none (one_text-rows f name ∙ e);
  given = λ t e i. number_read G k low high t r parses fits i (value t (one_text-rows f name ∙ e));
}

module _ (name : Text) (low high fallback : ℕ) (rows : List Row) where
  pub chosen : (n : ℕ) → MayBeNumberOf name low high rows (Some n) → IsNumberOf name low high fallback rows n
  chosen n m = record {
    absent = λ e. let no : Some n ≡ None = m.absent e in cc;
    given = λ t e i. let is : Some n ≡ Some (number_in t) = m.given t e i in cc;
  }

  pub left_out : MayBeNumberOf name low high rows None → IsNumberOf name low high fallback rows fallback
  left_out m = record {
    absent = λ e. refl;
    given = λ t e i. let no : None ≡ Some (number_in t) = m.given t e i in cc;
  }

  pub out_of_range : (n : ℕ) → MayBeNumberOf name low high rows (Some n) → (low ≤ n → n ≤ high → ⊥) → IsNumberOf name low high fallback rows fallback
  out_of_range n m out = record {
    absent = λ e. refl;
    given = λ t e i.
        let is : Some n ≡ Some (number_in t) = m.given t e i in
        let same : n ≡ number_in t = cc in
        let least = i.2 in
        let most = i.3 in
        absurd (out (omega (arith, same, least)) (omega (arith, same, most)));
  }

-- and of a number that has no default
pub none_out_of_range : (name : Text) (low high : ℕ) (rows : List Row) (n : ℕ) → MayBeNumberOf name low high rows (Some n) → (low ≤ n → n ≤ high → ⊥) → MayBeNumberOf name low high rows None
none_out_of_range name low high rows n m out = record {
  absent = λ e. refl;
  given = λ t e i.
      let is : Some n ≡ Some (number_in t) = m.given t e i in
      let same : n ≡ number_in t = cc in
      let least = i.2 in
      let most = i.3 in
      absurd (out (omega (arith, same, least)) (omega (arith, same, most)));
}

-- what refused the words first is what they are refused by
pub first_kind : (kinds next : Kinds) (e : Error) → HasKind kinds e → HasKind (or_else kinds next) e
first_kind [] next e (inl h) = inl h
first_kind [] next e (inr h) = absurd h
first_kind (k ∷ ks) next e h = h

-- what refused the words is handed on
pub handed_on : {T : Type 0} (kinds : Kinds) (e : Error) (r : Result T Error) → IsErrAnd r (λ y. y ≡ e) → HasKind kinds e → FailsBy kinds r
handed_on kinds e (Ok x) h k = absurd h
handed_on kinds e (Err y) h k = subst (HasKind kinds) (sym h) k
