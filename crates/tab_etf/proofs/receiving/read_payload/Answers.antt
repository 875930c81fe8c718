use Rattle.std.proofs.Common.{◌≡◌, ◌<◌, ◌+◌, ◌-◌, ◌++◌, take, drop, length, arith, ◌∙◌, refl}
use Rattle.std.proofs.lemmas.List.{length-take, length-append, length-drop}
use Rattle.std.proofs.lemmas.Result.{err_from_is_err_and}
use Rattle.tab_etf.proofs.KnownBytesLemmas.{Consumes-then, come_more}
use Rattle.tab_etf.proofs.receiving.read_payload.Goals as goal

pub returns-in_err-came-clause-payload : goal.returns-in_err-came-clause-payload
returns-in_err-came-clause-payload g c =
    let h = c.loop-left.invariant.2 in
    let p = c.in_err-came.ensures.part in
    let q = err_from_is_err_and c.from_residual.result c.from_residual.ensures.1 in
    rw (q.1, q.2) (h.got ++ p.0, Consumes-then _ _ _ _ _ _ h.came p.1 refl)

pub returns-then-came-room-clause-payload : goal.returns-then-came-room-clause-payload
returns-then-came-room-clause-payload g c =
    let h = c.loop-left.invariant.2 in
    let n = c.in_ok-came.came in
    let room : length c.fill.new.buf ≡ c.min-room.result = omega (arith, c.fill.auto.buf, length-take c.min-room.result c.loop-left.chunk, c.loop-left.invariant.3, c.min-room.ensures) in
    let less : n < length c.fill.new.buf = omega (arith, room, c.if-came-room.true) in
    let few : length h.got + n < c.args.count = omega (arith, h.many, c.loop-left.invariant.0, c.if-came-room.true, c.min-room.ensures) in
    ((h.got ++ take n c.fill.new.buf, Consumes-then _ _ _ _ _ _ h.came c.in_ok-came.ensures.bytes refl, omega (arith, few, length-append h.got (take n c.fill.new.buf), length-take n c.fill.new.buf)), c.in_ok-came.ensures.end less)

pub loop-left-preserved : goal.loop-left-preserved
loop-left-preserved g c =
    let room : length c.fill.new.buf ≡ c.min-room.result = omega (arith, c.fill.auto.buf, length-take c.min-room.result c.loop-left.chunk, c.loop-left.invariant.3, c.min-room.ensures) in
    let few : c.in_ok-came.came < c.loop-left.left + 1 = omega (arith, c.in_ok-came.ensures.bound, room, c.min-room.ensures) in
    let sum : c.args.count - (c.loop-left.left - c.in_ok-came.came) ≡ c.args.count - c.loop-left.left + c.in_ok-came.came = omega (arith, c.loop-left.invariant.0, few) in (
      omega (arith, c.loop-left.invariant.0),
      c.in_ok-came.ensures.same ∙ c.loop-left.invariant.1,
      come_more _ _ _ _ _ _ _ _ _ _ _ _ c.loop-left.invariant.2 c.in_ok-came.ensures.bytes c.in_ok-came.ensures.bound sum c.keep-lost.ensures,
      omega (arith, room, length-append c.fill.new.buf (drop c.min-room.result c.loop-left.chunk), length-drop c.min-room.result c.loop-left.chunk, c.loop-left.invariant.3, c.min-room.ensures),
    )
