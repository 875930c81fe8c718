-- How a write ended.
use Rattle.std.specs.Prelude.{Bool, true, false}
use Rattle.tab_uses.specs.declared.writes.Ending.{Ending}
use Rattle.tab_uses.specs.declared.writes.Ending.TheVariants.{Commit, Refusal, Restart}

-- it is committed
abbrev pub is_commit : Ending → Bool
is_commit (Commit number) = true
is_commit Refusal = false
is_commit Restart = false
