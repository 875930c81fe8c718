use Rattle.std.proofs.Common.{◌≡◌, ℕ, ◌+◌, ◌-◌, ◌≤◌, List, [], ◌++◌, length, take, drop, Some, sym, subst, ◌∙◌, arith, append-nil, length-drop}
use Rattle.tab_etf.specs.Frames.{length_next}
use Rattle.tab_etf.specs.Streams.{front}
use Rattle.tab_etf.proofs.Cuts.{front-whole, front_part, front_short}
use Rattle.tab_server.specs.Aborting.{BeginsWithAbort, IsAbort}
use Rattle.tab_server.proofs.next.next_in.Goals as goal

begins : (bytes : List ℕ) (n : ℕ) → length_next bytes ≡ Some n → n ≤ 4092 → 4 + n ≤ length bytes → IsAbort (take (4 + n - 4) (drop 4 bytes)) → BeginsWithAbort bytes
begins bytes n next small within is =
    let whole = front-whole bytes [] n next (omega arith) (omega (arith, length-drop 4 bytes)) in
    let same : 4 + n - 4 ≡ n = omega arith in (
      take n (drop 4 bytes),
      drop n (drop 4 bytes) ++ [],
      subst (λ (b : List ℕ). front b ≡ Some (take n (drop 4 bytes), drop n (drop 4 bytes) ++ [])) (append-nil bytes) whole,
      subst (λ (m : ℕ). IsAbort (take m (drop 4 bytes))) same is,
    )

pub returns-in_default-clause-part : goal.returns-in_default-clause-part
returns-in_default-clause-part c e =
    (front_part c.args.bytes.now (λ x f. c.in_default.not-Some x (c.length_at.ensures.value ∙ f))).0

pub returns-then-bytes-len-clause-part : goal.returns-then-bytes-len-clause-part
returns-then-bytes-len-clause-part c e =
    (front_short c.args.bytes.now c.in-Some.len (sym c.in-Some.ensures.value) (omega arith) (omega (arith, c.in-Some.ensures.long, length-drop 4 c.args.bytes.now))).0

pub returns-then-is_abort-clause-abort : goal.returns-then-is_abort-clause-abort
returns-then-is_abort-clause-abort c e =
    begins c.args.bytes.now c.in-Some.len (sym c.in-Some.ensures.value) (omega arith) (omega arith) (c.is_abort.ensures c.if-is_abort.true)
