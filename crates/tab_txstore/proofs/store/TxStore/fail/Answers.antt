use Rattle.std.proofs.Common.{refl}
use Rattle.tab_txstore.proofs.KeptLemmas.{ended_no_more, room, counted_one}
use Rattle.tab_txstore.proofs.store.TxStore.fail.Goals as goal

pub invariant_of-self-2 : goal.invariant_of-self-2
invariant_of-self-2 c =
    let less = ended_no_more c.self.inside.levels c.end.new.self c.end.ensures in (
      room _ _ _ _ _ _ _ _ c.depth.ensures c.in_ok-reserve.ensures.room less c.put_move.ensures.len c.put_move.ensures.room,
      room _ _ _ _ _ _ _ _ c.depth-2.ensures c.in_ok-reserve_told.ensures.room less c.put_told.ensures.len c.put_told.ensures.room,
      counted_one c.self.inside.moves.items _ _ _ _ c.in_ok-reserve.ensures.items c.put_move.ensures.items refl c.self.invariant.2,
    )
