use Rattle.std.proofs.Common.{◌≡◌, ◌+◌, ◌<◌, min, ◌^◌, ◌-◌, drop}
use Rattle.tab_journal.specs.Bytes.{replies_memory}
use Rattle.tab_journal.proofs.bytes.of_replies.Given as goal

-- the members that are left add the rest
abbrev pub invariant-loop-reply : goal.invariant-loop-reply
invariant-loop-reply l = (l.sum < 2 ^ 64) × (min (l.sum + replies_memory (drop l.reply-index l.told)) (2 ^ 64 - 1) ≡ min (replies_memory l.told) (2 ^ 64 - 1))
