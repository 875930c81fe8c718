use Rattle.std.proofs.Common.{arith}
use Rattle.tab_map.proofs.+tree.Goals as goal

pub tab_map++Branch+Destruct::drop-drop-requires : goal.tab_map++Branch+Destruct::drop-drop-requires
tab_map++Branch+Destruct::drop-drop-requires g t c κs = λ within. (omega (arith, c.decreases), within)

pub tab_map++Node+Destruct::drop-drop-requires-2 : goal.tab_map++Node+Destruct::drop-drop-requires-2
tab_map++Node+Destruct::drop-drop-requires-2 g t c κs = λ within. (omega (arith, c.decreases), within)
