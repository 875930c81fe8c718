-- Reading pairs one after the other, as a loop does.
use Rattle.std.proofs.Common.{◌≡◌, ℕ, suc, ◌-◌, ◌+◌, ◌≤◌, ◌<◌, true, false, List, [], ◌∷◌, ◌++◌, length, Result, Ok, Err, refl, ◌∙◌, arith}
use Rattle.tab_term.specs.Data.{PlainTerm, PlainPairs, no_pair}
use Rattle.tab_etf.specs.Keys.{has_key, put_pair}
use Rattle.tab_etf.specs.declared.fault.Stop.{Stop}
use Rattle.tab_etf.specs.declared.fault.ReadError.{ReadError}
use Rattle.tab_etf.specs.declared.fault.ReadError.TheVariants as errors
use Rattle.tab_etf.specs.declared.run.Run.{Run}
use Rattle.tab_etf.specs.Reading.{◌>>=◌, Fails, Reads, key_at, pair_at, pairs_from}
use Rattle.tab_etf.specs.Runs.{Entry, put_all, pair_then, AreNoted, GoesOn}
use Rattle.tab_etf.proofs.RunsLemmas.{put_all_same, put_all_more}

module _ (read : Reads) (ps : PlainPairs) (bytes : List ℕ) (k : PlainTerm) (rest : List ℕ) where
  pub key_is_new : read bytes ≡ Ok (k, rest) → has_key k ps ≡ false → key_at read ps bytes ≡ Ok (k, rest)
  unfolding key_at
  key_is_new e n = rw (e, n) refl

  pub pair_is_read : (x : PlainTerm) (after : List ℕ) → key_at read ps bytes ≡ Ok (k, rest) → read rest ≡ Ok (x, after) → pair_at read ps bytes ≡ Ok (put_pair k x ps, after)
  unfolding pair_at
  pair_is_read x after e f = rw (e, f) refl

-- one more pair, read behind these
module _ {A : Type 0} (read : Reads) (es : List Entry) (bytes : List ℕ) (go_on : PlainPairs × List ℕ → Result A Stop) where
  no_key : (f : Stop) → read bytes ≡ Err f → (ps : PlainPairs) → (pair_at read ps bytes >>= go_on) ≡ Err f
  unfolding pair_at key_at
  no_key f e ps = rw e refl

  no_value : (f : Stop) (k x : PlainTerm) (rest : List ℕ) → read bytes ≡ Ok (k, rest) → read rest ≡ Err f → (ps : PlainPairs) → (pair_at read ps bytes >>= go_on) ≡ put_all ps ((k, x, length bytes) ∷ []) (λ qs. Err f)
  unfolding pair_at key_at
  no_value f k x rest e v ps = elim (has_key k ps) as (λ b. has_key k ps ≡ b → (pair_at read ps bytes >>= go_on) ≡ put_all ps ((k, x, length bytes) ∷ []) (λ qs. Err f)) [
    | true ↦ λ h. rw (e, h) refl
    | false ↦ λ h. rw (e, h, v) refl
  ] refl

  both : (k x : PlainTerm) (rest after : List ℕ) → read bytes ≡ Ok (k, rest) → read rest ≡ Ok (x, after) → (ps : PlainPairs) → (pair_at read ps bytes >>= go_on) ≡ put_all ps ((k, x, length bytes) ∷ []) (λ qs. go_on (qs, after))
  unfolding pair_at key_at
  both k x rest after e v ps = elim (has_key k ps) as (λ b. has_key k ps ≡ b → (pair_at read ps bytes >>= go_on) ≡ put_all ps ((k, x, length bytes) ∷ []) (λ qs. go_on (qs, after))) [
    | true ↦ λ h. rw (e, h) refl
    | false ↦ λ h. rw (e, h, v) refl
  ] refl

  key_ends : (f : Stop) → read bytes ≡ Err f → put_all no_pair es (pair_then read go_on bytes) ≡ put_all no_pair es (λ ps. Err f)
  key_ends f e = put_all_same no_pair es _ _ (no_key f e)

  value_ends : (f : Stop) (k x : PlainTerm) (rest : List ℕ) → read bytes ≡ Ok (k, rest) → read rest ≡ Err f → put_all no_pair es (pair_then read go_on bytes) ≡ put_all no_pair (es ++ (k, x, length bytes) ∷ []) (λ qs. Err f)
  value_ends f k x rest e v = put_all_same no_pair es _ _ (no_value f k x rest e v) ∙ put_all_more no_pair es (k, x, length bytes) _

  pub pair_goes_on : (k x : PlainTerm) (rest after : List ℕ) → read bytes ≡ Ok (k, rest) → read rest ≡ Ok (x, after) → put_all no_pair es (pair_then read go_on bytes) ≡ put_all no_pair (es ++ (k, x, length bytes) ∷ []) (λ qs. go_on (qs, after))
  pair_goes_on k x rest after e v = put_all_same no_pair es _ _ (both k x rest after e v) ∙ put_all_more no_pair es (k, x, length bytes) _

  -- where it ends
  module _ {X : Type 0} (view : X → List ℕ) (run : Run) where
    pub key_fails : (e : ReadError) → AreNoted run.spelled.items run.keys.items es → Fails e (read bytes) → GoesOn view go_on run (Err e) (put_all no_pair es (pair_then read go_on bytes))
    key_fails errors.Memory noted f = tt
    key_fails (errors.At s) noted f = (es, noted, key_ends s f)

    pub value_fails : (e : ReadError) (k : PlainTerm) (rest : List ℕ) → AreNoted run.spelled.items run.keys.items (es ++ (k, k, length bytes) ∷ []) → read bytes ≡ Ok (k, rest) → Fails e (read rest)
        → GoesOn view go_on run (Err e) (put_all no_pair es (pair_then read go_on bytes))
    value_fails errors.Memory k rest noted r f = tt
    value_fails (errors.At s) k rest noted r f = (es ++ (k, k, length bytes) ∷ [], noted, value_ends s k k rest r f)

pub ended_as : {X A : Type 0} (view : X → List ℕ) (f : PlainPairs × List ℕ → Result A Stop) (g : PlainPairs × List ℕ → Result A Stop) (run : Run) (e : ReadError) (answer other : Result A Stop)
    → answer ≡ other → GoesOn view f run (Err e) other → GoesOn view g run (Err e) answer
ended_as view f g run errors.Memory answer other q h = tt
ended_as view f g run (errors.At s) answer other q h = (h.0, h.1, q ∙ h.2)

-- so many pairs: the next one, or none
module _ (read : Reads) (count i : ℕ) (es : List Entry) (bytes : List ℕ) where
  pub pairs_next : i < count → put_all no_pair es (λ ps. pairs_from read (count - i) ps bytes) ≡ put_all no_pair es (pair_then read (λ x. pairs_from read (count - (i + 1)) x.0 x.1) bytes)
  unfolding pairs_from
  pairs_next lt = put_all_same no_pair es _ _ (λ ps. let k : count - i ≡ suc (count - (i + 1)) = omega arith in rw k refl)

  pub pairs_end : count ≤ i → put_all no_pair es (λ ps. pairs_from read (count - i) ps bytes) ≡ put_all no_pair es (λ ps. Ok (ps, bytes))
  unfolding pairs_from
  pairs_end le = put_all_same no_pair es _ _ (λ ps. let k : count - i ≡ 0 = omega arith in rw k refl)
