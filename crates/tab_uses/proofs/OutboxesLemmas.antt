-- What a run says of its outbox.
use Rattle.std.proofs.Common.{◌≡◌, ℕ, List, Option, Some, None}
use Rattle.clap.specs.Words.{Row, Text}
use Rattle.tab_words.specs.Asked.{IsAskedBy}
use Rattle.tab_words.specs.declared.parsing.Run.{Run}
use Rattle.tab_words.specs.declared.parsing.Run.TheVariants.{Replay, Serve}
use Rattle.tab_words.specs.declared.serving.Address.{Address}
use Rattle.tab_words.specs.declared.serving.Service.{Service}
use Rattle.tab_uses.specs.Outboxes.{IsOutboxOf}

pub of_replay : (o : Option (Text × List Row)) (outbox : ℕ) → IsAskedBy o (Replay outbox) → IsOutboxOf o outbox
of_replay None outbox h = tt
of_replay (Some c) outbox h = ((λ e. absurd (h.0 e)), h.1)

pub of_server : (o : Option (Text × List Row)) (a : Address) (s : Service) → IsAskedBy o (Serve a s) → IsOutboxOf o s.sizes.outbox
of_server None a s h = tt
of_server (Some c) a s h = ((λ e. h.2.outbox), (λ e. h.2.outbox))
