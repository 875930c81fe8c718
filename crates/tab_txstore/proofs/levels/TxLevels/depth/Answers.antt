use Rattle.std.proofs.Common.{◌≡◌, rules, ap, ◌∙◌, length}
use Rattle.tab_txstore.specs.Stores.{Levels}
use Rattle.tab_txstore.proofs.KeptLemmas.{depth_of}
use Rattle.tab_txstore.proofs.levels.TxLevels.depth.Goals as goal

pub returns : goal.returns
returns c = let n : c.len.result ≡ length c.self.inside.saved.items = search rules in n ∙ depth_of c.self.inside.updates.items c.self.inside.saved.items ∙ ap (λ (l : Levels). length l.saved) c.self.view_is
