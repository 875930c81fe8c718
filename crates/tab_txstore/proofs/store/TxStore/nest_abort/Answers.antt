use Rattle.std.proofs.Common.{◌<◌, refl, sym, subst, length}
use Rattle.tab_txstore.specs.Stores.{Store}
use Rattle.tab_txstore.proofs.KeptLemmas.{ended_less, room_kept, counted_none}
use Rattle.tab_txstore.proofs.store.TxStore.nest_abort.Goals as goal

pub invariant_of-self : goal.invariant_of-self
invariant_of-self c =
    let less = ended_less c.self.inside.levels c.end.new.self c.end.ensures (subst (λ (s : Store). 0 < length s.levels.saved) (sym c.self.view_is) c.requires) in
    (room_kept _ _ _ _ _ _ c.self.invariant.0 less c.put_move.ensures.len c.put_move.ensures.room, room_kept _ _ _ _ _ _ c.self.invariant.1 less c.put_told.ensures.len c.put_told.ensures.room, counted_none _ _ _ _ c.put_move.ensures.items refl c.self.invariant.2)
