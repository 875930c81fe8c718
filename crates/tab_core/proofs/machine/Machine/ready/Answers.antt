use Rattle.std.proofs.Common.{arith}
use Rattle.tab_core.specs.Parts.{parts_of}
use Rattle.tab_core.proofs.ReadyLemmas.{listed_more, listed_none, all_ready}
use Rattle.tab_core.proofs.machine.Machine.ready.Goals as goal

pub loop-place-preserved-then-not-is_ready : goal.loop-place-preserved-then-not-is_ready
loop-place-preserved-then-not-is_ready g c =
    let place = c.loop-place.place in
    record {
      all = c.loop-place.invariant.all;
      room = let r = c.loop-place.invariant.room in omega (arith, r);
      listed = listed_none (parts_of c.args.self.now) c.loop-place.ready.items place c.is_ready.result c.if-not-is_ready.true c.is_ready.ensures c.loop-place.invariant.listed;
    }

pub loop-place-preserved : goal.loop-place-preserved
loop-place-preserved g c =
    let place = c.loop-place.place in
    record {
      all = c.loop-place.invariant.all;
      room = let r = c.loop-place.invariant.room in let l = c.push.ensures.len in omega (arith, r, l);
      listed = listed_more (parts_of c.args.self.now) c.loop-place.ready.items c.push.new.self.items place c.number.result c.push.ensures.items c.number.ensures c.loop-place.invariant.listed;
    }

pub push-requires : goal.push-requires
push-requires g c =
    let r = c.loop-place.invariant.room in
    let all = c.loop-place.invariant.all in
    let most = c.requires.kept.agree.room in
    let lt = c.loop-place-test.true in
    omega (arith, r, all, most, lt)

pub returns : goal.returns
returns g c = all_ready (parts_of c.args.self.now) c.requires.kept _ c.loop-place.place (omega (arith, c.loop-place-test.false, c.loop-place.invariant.all)) c.loop-place.invariant.listed
