use Rattle.std.proofs.Common.{◌≡◌, ◌*◌, ◌/◌, ◌<◌, ◌≤◌, ap₂, Fits, w8, get_or, rules, sym, ◌∙◌, arith, length-take, get_or-take}
use Rattle.std.proofs.Math.Nat.{mul-le-mul_left}
use Rattle.tab_key.proofs.Rooms.{some_room, next_place, greatest, next_byte, nothing_left}
use Rattle.tab_key.proofs.head.Goals as goal

pub overflow_sub-result : goal.overflow_sub-result
overflow_sub-result c = some_room _ _ c.loop-byte.invariant.place

pub returns-clause-below : goal.returns-clause-below
returns-clause-below c = omega (arith, some_room _ _ c.loop-byte.invariant.place, c.loop-byte.invariant.room)

pub returns-then-byte-clause-below : goal.returns-then-byte-clause-below
returns-then-byte-clause-below c = omega (arith, some_room _ _ c.loop-byte.invariant.place, c.loop-byte.invariant.room)

pub returns-then-byte-clause-head : goal.returns-then-byte-clause-head
returns-then-byte-clause-head c =
    let long = length-take c.min-taken.result c.args.bytes.now in
    let byte = get_or-take c.min-taken.result c.args.bytes.now c.loop-byte.byte-index 0 (omega (arith, long)) in
    let last = greatest c.args.count c.loop-byte.byte-index c.args.bytes.now (omega (arith, long)) (omega (arith, long)) (sym byte ∙ c.if-byte.true) in
    omega (arith, last, some_room _ _ c.loop-byte.invariant.place)

pub loop-byte-preserved : goal.loop-byte-preserved
loop-byte-preserved c =
    let long = length-take c.min-taken.result c.args.bytes.now in
    let byte = get_or-take c.min-taken.result c.args.bytes.now c.loop-byte.byte-index 0 (omega (arith, long)) in
    let place = next_place c.args.count c.loop-byte.byte-index c.loop-byte.place (omega (arith, long)) c.loop-byte.invariant.place in
    let fits : Fits w8 (get_or c.args.bytes.now c.loop-byte.byte-index 0) = search rules in
    let least : get_or c.args.bytes.now c.loop-byte.byte-index 0 < 255 = omega (arith, fits, byte, c.if-byte.false) in
    let next = next_byte c.args.count c.loop-byte.byte-index c.args.bytes.now (omega (arith, long)) (omega (arith, long)) least in
    let is : c.from.result ≡ get_or c.args.bytes.now c.loop-byte.byte-index 0 = c.from.ensures ∙ byte in
    let product = ap₂ (λ x y. x * y) is place in
    let most : c.loop-byte.place / 256 * c.from.result ≤ c.loop-byte.place / 256 * 254 = mul-le-mul_left (c.loop-byte.place / 256) (omega (arith, is, least)) in
    record {
      place = place;
      room = omega (arith, most, c.loop-byte.invariant.room);
      number = omega (arith, next, product, c.loop-byte.invariant.number);
    }

pub returns-clause-head : goal.returns-clause-head
returns-clause-head c =
    let long = length-take c.min-taken.result c.args.bytes.now in
    let nothing = nothing_left c.args.count _ c.loop-byte.byte-index c.args.bytes.now c.min-taken.ensures (omega (arith, long)) in
    omega (arith, nothing)
