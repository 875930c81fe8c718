-- Pairs as they are kept while a map is read.
use Rattle.std.specs.Prelude.{◌≡◌, ℕ, ◌≤◌, ◌<◌, List, [], ◌∷◌, length, Option, Some, None, Result, Ok, Err, if◌then◌else◌, slice_index_or}
use Rattle.tab_term.specs.Data.{PlainTerm, PlainPairs, no_pair}
use Rattle.tab_term.specs.Canon.{canon}
use Rattle.tab_term.specs.View.{term}
use Rattle.tab_term.specs.declared.term.Term.{Term}
use Rattle.tab_etf.specs.declared.fault.Fault.TheVariants as faults
use Rattle.tab_etf.specs.declared.fault.Stop.{Stop}
use Rattle.tab_etf.specs.declared.fault.ReadError.{ReadError}
use Rattle.tab_etf.specs.declared.fault.ReadError.TheVariants as errors
use Rattle.tab_etf.specs.declared.run.Key.{Key}
use Rattle.tab_etf.specs.declared.run.Run.{Run}
use Rattle.tab_etf.specs.Keys.{has_key, put_pair}
use Rattle.tab_etf.specs.Keyed.{spelling_at}
use Rattle.tab_etf.specs.Reading.{◌>>=◌, Reads, stop, pair_at}

-- what was read of a pair: its key, its value, and how many bytes are left from the key's tag on
abbrev pub Entry : Type 0
Entry = PlainTerm × PlainTerm × ℕ

-- these entries put to the pairs, and then the rest: a key that is there already ends it
abbrev pub put_all : {A : Type 0} → PlainPairs → List Entry → (PlainPairs → Result A Stop) → Result A Stop
put_all ps [] go_on = go_on ps
put_all ps (e ∷ es) go_on = if has_key e.0 ps then stop faults.DuplicateKey e.2 else put_all (put_pair e.0 e.1 ps) es go_on

-- the next pair, and then the rest
abbrev pub pair_then : {A : Type 0} → Reads → (PlainPairs × List ℕ → Result A Stop) → List ℕ → PlainPairs → Result A Stop
pair_then read go_on bytes ps = pair_at read ps bytes >>= go_on

-- a key that stands there twice goes before the fault that the reading came to
abbrev pub first_stop : Option Key → Stop → Stop
first_stop None at = at
first_stop (Some k) at = record { fault = faults.DuplicateKey; left = k.left }

-- the first fault, where the reading came to this one
abbrev pub IsFirstFault : List Entry → Stop → Stop → Type 0
IsFirstFault es at first = put_all {A = PlainPairs} no_pair es (λ ps. Err at) ≡ Err first

-- a key as it is kept, with the entry that it belongs to
pub record IsNoted (spelled : List ℕ) (i : ℕ) (k : Key) (e : Entry) : Type 0 where
  pub pair : k.pair ≡ i
  pub left : k.left ≡ e.2
  pub order : k.start ≤ k.end
  pub inside : k.end ≤ length spelled
  pub spelling : spelling_at spelled k ≡ canon e.0

-- for each entry the key that is kept of it, in their order
pub record AreNoted (spelled : List ℕ) (ks : List Key) (es : List Entry) : Type 0 where
  pub len : length ks ≡ length es
  pub each : (i : ℕ) (d : Key) (e : Entry) → i < length es → IsNoted spelled i (slice_index_or ks i d) (slice_index_or es i e)

-- for each entry its key and its value, in their order
pub record ArePaired (ps : List (Term × Term)) (es : List Entry) : Type 0 where
  pub len : length ps ≡ length es
  pub keys : (i : ℕ) (d : Term × Term) (e : Entry) → i < length es → term (slice_index_or ps i d).0 ≡ (slice_index_or es i e).0
  pub values : (i : ℕ) (d : Term × Term) (e : Entry) → i < length es → term (slice_index_or ps i d).1 ≡ (slice_index_or es i e).1

-- the run keeps the keys and the pairs of these entries
abbrev pub Holds : Run → List Entry → Type 0
Holds run es = AreNoted run.spelled.items run.keys.items es × ArePaired run.pairs.items es

-- what was read until now: the whole answer is that of these entries, and then of what comes behind them
abbrev pub GoesOn : {X A : Type 0} → (X → List ℕ) → (PlainPairs × List ℕ → Result A Stop) → Run → Result X ReadError → Result A Stop → Type 0
GoesOn view go_on run (Ok x) answer = (es : List Entry) × Holds run es × (answer ≡ put_all no_pair es (λ ps. go_on (ps, view x)))
GoesOn view go_on run (Err errors.Memory) answer = Unit {0}
GoesOn view go_on run (Err (errors.At s)) answer = (es : List Entry) × AreNoted run.spelled.items run.keys.items es × (answer ≡ put_all no_pair es (λ ps. Err s))

-- all pairs of a map were read: the answer is those of the run and the bytes that view shows, or the first fault
abbrev pub Ran : {X : Type 0} → (X → List ℕ) → Run → Result X ReadError → Result (PlainPairs × List ℕ) Stop → Type 0
Ran view run read answer = GoesOn view (λ x. Ok x) run read answer
