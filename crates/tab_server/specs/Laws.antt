-- Bytes that are sent one after another.
use Rattle.std.specs.Prelude.{ℕ, Bool, List, [], ◌++◌, Option, refl}
use Rattle.tab_etf.proofs.KnownBytesLemmas.{Appends-none, Appends-then}
use Rattle.std.specs.Io.KnownBytes.{append_known}
use Rattle.tab_server.specs.declared.answers.Answers.{Answers}
use Rattle.tab_server.specs.Sending.{Goes}
use Rattle.tab_server.specs.Sent.{Sends}

module _ {O : Type 0} (sent : O → Option (List ℕ)) (broken : O → Bool) where
  -- nothing
  pub goes_none : (o : O) (kept : List ℕ) → Goes sent broken o kept o kept []
  goes_none o kept whole = (whole, Appends-none (append_known (sent o) kept))

  -- some bytes, and then others
  pub goes_then : (a b c : O) (x y z bytes more : List ℕ) → Goes sent broken a x b y bytes → Goes sent broken b y c z more → Goes sent broken a x c z (bytes ++ more)
  goes_then a b c x y z bytes more h k whole =
      let last = k whole in
      let first = h last.0 in
      (first.0, Appends-then _ _ _ bytes more (bytes ++ more) first.1 last.1 refl)

module _ {O G : Type 0} (sent : O → Option (List ℕ)) (broken : O → Bool) where
  -- nothing
  pub sends_none : (a : Answers O G) → Sends sent broken a a []
  sends_none a = goes_none sent broken a.outlet a.frames.items

  -- some bytes, and then others
  pub sends_on : (a b c : Answers O G) (bytes more : List ℕ) → Sends sent broken a b bytes → Sends sent broken b c more → Sends sent broken a c (bytes ++ more)
  sends_on a b c bytes more h k = goes_then sent broken a.outlet b.outlet c.outlet a.frames.items b.frames.items c.frames.items bytes more h k
