-- Requests and commands, read part by part.
use Rattle.std.proofs.Common.{◌≡◌, ℕ, zero, suc, pos, ◌+◌, ◌-◌, ◌<◌, List, Ok, refl, sym, ap, ◌∙◌}
use native.Mathlib.Omega.{arith}
use Rattle.tab_term.specs.Data.{PlainTerm, PlainTerms, none, one_more, atom, int, pair, tuple}
use Rattle.tab_etf.specs.Reading.{Reads, term_at, times}

-- what the elements of a tuple are read to, the tuple is
abbrev pub IsTupleOf : ℕ → List ℕ → List ℕ → Type 0
IsTupleOf count bytes elements = (levels : ℕ) (ts : PlainTerms) (rest : List ℕ) → times (term_at levels) count elements ≡ Ok (ts, rest)
    → term_at (levels + 1) bytes ≡ Ok (tuple ts, rest)

one_then : (read : Reads) (n : ℕ) (bytes after rest : List ℕ) (t : PlainTerm) (ts : PlainTerms) → 0 < n → read bytes ≡ Ok (t, after) → times read (n - 1) after ≡ Ok (ts, rest)
    → times read n bytes ≡ Ok (one_more t ts, rest)
unfolding times
one_then read zero bytes after rest t ts lt h k = absurd (omega (arith, lt))
one_then read (suc n) bytes after rest t ts lt h k =
    let one : suc n - 1 ≡ n = omega arith in
    let others : times read n after ≡ Ok (ts, rest) = ap (λ m. times read m after) (sym one) ∙ k in
    rw (h, others) refl

one_last : (read : Reads) (bytes rest : List ℕ) (t : PlainTerm) → read bytes ≡ Ok (t, rest) → times read 1 bytes ≡ Ok (one_more t none, rest)
unfolding times
one_last read bytes rest t h = rw h refl

-- a session's number and what it asks
pub pair_at : (bytes elements after rest : List ℕ) (n : ℕ) (t : PlainTerm) → IsTupleOf 2 bytes elements → term_at 63 elements ≡ Ok (int (pos n), after)
    → term_at 63 after ≡ Ok (t, rest) → term_at 64 bytes ≡ Ok (pair (int (pos n)) t, rest)
pair_at bytes elements after rest n t is h k =
    is 63 (one_more (int (pos n)) (one_more t none)) rest (one_then (term_at 63) 2 elements after rest (int (pos n)) (one_more t none) (omega arith) h (one_last (term_at 63) after rest t k))

-- a word and its arguments
pub call_at : (bytes elements after rest word : List ℕ) (count levels : ℕ) (ts : PlainTerms) (t : PlainTerm) → IsTupleOf count bytes elements → 0 < count
    → term_at levels elements ≡ Ok (atom word, after) → times (term_at levels) (count - 1) after ≡ Ok (ts, rest) → t ≡ tuple (one_more (atom word) ts)
    → term_at (levels + 1) bytes ≡ Ok (t, rest)
call_at bytes elements after rest word count levels ts t is lt h k e =
    is levels (one_more (atom word) ts) rest (one_then (term_at levels) count elements after rest (atom word) ts lt h k) ∙ ap (λ (u : PlainTerm). Ok (u, rest)) (sym e)
