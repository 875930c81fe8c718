use Rattle.std.proofs.Common.{◌≡◌, ℕ, List, length, inl, inr, refl, sym, ◌∙◌, [], arith}
use Rattle.std.specs.Prelude.{set}
use Rattle.std.specs.Int.{w32, from_be_bytes}
use Rattle.std.proofs.lemmas.List.{length-set}
use Rattle.tab_server.proofs.Placing.{all_bytes, zero_frame, over_at, payload_at}
use Rattle.tab_server.proofs.place.Place.after.Goals as goal

pub returns-then-value-eq0 : goal.returns-then-value-eq0
returns-then-value-eq0 c lt =
    let four : length c.args.head ≡ 4 = omega arith in
    let h : List ℕ = set c.args.head c.from.result c.args.byte in
    let value : c.from_be_bytes-value.result ≡ from_be_bytes w32 h = c.from_be_bytes-value.ensures in
    rw (all_bytes c.args.head c.args.count c.from.result c.args.byte four (omega arith) c.from.ensures) (inr ([], zero_frame h (length-set c.args.head c.from.result c.args.byte ∙ four) (sym value ∙ c.if-value-eq0.true), c.new.ensures.between))

pub returns-then-value-gt-LIMIT : goal.returns-then-value-gt-LIMIT
returns-then-value-gt-LIMIT c lt =
    let four : length c.args.head ≡ 4 = omega arith in
    let h : List ℕ = set c.args.head c.from.result c.args.byte in
    let value : c.from_be_bytes-value.result ≡ from_be_bytes w32 h = c.from_be_bytes-value.ensures in
    rw (all_bytes c.args.head c.args.count c.from.result c.args.byte four (omega arith) c.from.ensures) (inl (over_at h (length-set c.args.head c.from.result c.args.byte ∙ four) (omega (arith, value)), refl))

pub returns : goal.returns
returns c lt =
    let four : length c.args.head ≡ 4 = omega arith in
    let h : List ℕ = set c.args.head c.from.result c.args.byte in
    let value : c.from_be_bytes-value.result ≡ from_be_bytes w32 h = c.from_be_bytes-value.ensures in
    rw (all_bytes c.args.head c.args.count c.from.result c.args.byte four (omega arith) c.from.ensures) (rw value (inl (payload_at h (length-set c.args.head c.from.result c.args.byte ∙ four) (omega (arith, value)) (λ z. c.if-value-eq0.false (value ∙ z)), refl)))
