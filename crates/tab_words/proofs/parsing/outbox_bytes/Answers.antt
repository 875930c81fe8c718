use Rattle.std.proofs.Common.{codes, arith}
use Rattle.std.specs.Str.Parse.{ParsesUnsigned, ExplainsUnsignedError, HasUnsignedDigitsIfOk}
use Rattle.clap.specs.Words.{found_of}
use Rattle.tab_words.proofs.Reading.{may_be}
use Rattle.tab_words.proofs.parsing.outbox_bytes.Goals as goal

pub returns : goal.returns
returns c =
    may_be (λ bs r. ParsesUnsigned 32 10 bs r × ExplainsUnsignedError 10 bs r × HasUnsignedDigitsIfOk bs r) 32 1 4294967295 (found_of c.args.matches.now) (codes "outbox-bytes") c.get_one.result (λ u x g. g.0) (omega arith) c.get_one.ensures.none c.get_one.ensures.value
