use Rattle.std.proofs.Common.{sym, ap, ◌∙◌, arith, ◌++◌, ◌∷◌, [], List, ℕ}
use Rattle.tab_etf.proofs.WritingLemmas.{writes_as, writes_then}
use Rattle.tab_etf.proofs.CanonLemmas.{length_short, length_long}
use Rattle.tab_etf.proofs.spelling.put_length.Goals as goal

pub returns-then-n-lt4294967295 : goal.returns-then-n-lt4294967295
returns-then-n-lt4294967295 g c = writes_as c.put.ensures (c.to_be_bytes.ensures ∙ sym (length_short c.args.n c.if-n-lt4294967295.true))

pub returns-else-n-lt4294967295 : goal.returns-else-n-lt4294967295
returns-else-n-lt4294967295 g c =
    writes_as (writes_then c.put-else-n-lt4294967295.ensures c.put-else-n-lt4294967295-2.ensures)
    (ap (λ (s : List ℕ). (255 ∷ 255 ∷ 255 ∷ 255 ∷ []) ++ s) c.to_be_bytes-else-n-lt4294967295.ensures ∙ sym (length_long c.args.n c.if-n-lt4294967295.false (omega arith)))
