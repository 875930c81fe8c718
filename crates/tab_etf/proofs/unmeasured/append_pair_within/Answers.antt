use Rattle.std.proofs.Common.{◌≡◌, ◌∙◌, ◌++◌, ◌∷◌, [], ap, arith, inl, inr, length, length-append, rules}
use Rattle.tab_term.specs.Canon.{canon}
use Rattle.tab_etf.specs.Listings.{unmeasured_term}
use Rattle.tab_etf.specs.Outlines.{leaf_term}
use Rattle.tab_etf.proofs.ListingLemmas.{frame_length, framed_pair}
use Rattle.tab_etf.proofs.unmeasured.append_pair_within.Goals as goal
use Rattle.tab_etf.proofs.unmeasured.append_pair_within.Goals.{else-within-via-then-within+else-len-most, else-within-via-else-within}

pub returns-then-len-most-clause-ok : goal.returns-then-len-most-clause-ok
returns-then-len-most-clause-ok c =
    let before = rw c.alone.ensures at c.in_ok-append.ensures.ok in
    c.put_number.ensures
    ∙ framed_pair c.append_value.new.out.items c.append.new.out.items c.args.out.now.items (leaf_term c.args.first.now) (unmeasured_term c.args.value.now) _ c.len-start.result before (c.in-Ok.ensures.ok c.if-within.true) (search rules) (search rules)

pub returns-then-len-most-clause-within : goal.returns-then-len-most-clause-within
returns-then-len-most-clause-within c within =
    let before = rw c.alone.ensures at c.in_ok-append.ensures.ok in
    let first = canon (leaf_term c.args.first.now) in
    let second = canon (unmeasured_term c.args.value.now) in
    let start : c.len-start.result ≡ length c.args.out.now.items = search rules in
    let end : c.len.result ≡ length c.append_value.new.out.items = search rules in
    omega (
      arith,
      frame_length (leaf_term c.args.first.now) (unmeasured_term c.args.value.now),
      ap length before,
      length-append c.args.out.now.items ((0 ∷ 0 ∷ 0 ∷ 0 ∷ 131 ∷ 104 ∷ 2 ∷ []) ++ first),
      ap length (c.in-Ok.ensures.ok c.if-within.true),
      length-append c.append.new.out.items second,
      c.if-len-most.true,
      start,
      end,
    )

pub returns-else-within-clause-over : goal.returns-else-within-clause-over
returns-else-within-clause-over c over =
    let before = rw c.alone.ensures at c.in_ok-append.ensures.ok in
    let first = canon (leaf_term c.args.first.now) in
    let second = canon (unmeasured_term c.args.value.now) in
    let whole = frame_length (leaf_term c.args.first.now) (unmeasured_term c.args.value.now) in
    let head = length-append c.args.out.now.items ((0 ∷ 0 ∷ 0 ∷ 0 ∷ 131 ∷ 104 ∷ 2 ∷ []) ++ first) in
    let start : c.len-start.result ≡ length c.args.out.now.items = search rules in
    let end : c.len.result ≡ length c.append_value.new.out.items = search rules in
    elim c.else-within.branch [
      | else-within-via-then-within+else-len-most w ↦ omega (arith, whole, ap length before, head, ap length (c.in-Ok.ensures.ok w.if-within.true), length-append c.append.new.out.items second, w.if-len-most.false, c.min-most.ensures, start, end)
      | else-within-via-else-within w ↦ elim (c.in-Ok.ensures.over w.if-within.false) [
        | inl lt ↦ omega (arith, lt, whole, ap length before, head, c.saturating_add.ensures, c.min-most.ensures, start, c.args.out.now.small, c.args.out.now.ok)
        | inr le ↦ omega (arith, le, whole)
      ]
    ]
