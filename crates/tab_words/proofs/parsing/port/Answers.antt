use Rattle.std.proofs.Common.{codes, arith, Some, None}
use Rattle.std.specs.Str.Parse.{ParsesUnsigned, ExplainsUnsignedError, HasUnsignedDigitsIfOk}
use Rattle.clap.specs.Words.{found_of}
use Rattle.tab_words.proofs.Reading.{may_be, chosen, left_out}
use Rattle.tab_words.proofs.parsing.port.Goals as goal

pub returns-in-Some : goal.returns-in-Some
returns-in-Some c =
    chosen _ _ _ _ _ _ (may_be (λ bs r. ParsesUnsigned 16 10 bs r × ExplainsUnsignedError 10 bs r × HasUnsignedDigitsIfOk bs r) 16 0 65535 (found_of c.args.matches.now) (codes "port") (Some c.in-Some.port) (λ u x g. g.0) (omega arith) c.in-Some.ensures.none c.in-Some.ensures.value)

pub returns-in-None : goal.returns-in-None
returns-in-None c =
    left_out _ _ _ _ _ (may_be (λ bs r. ParsesUnsigned 16 10 bs r × ExplainsUnsignedError 10 bs r × HasUnsignedDigitsIfOk bs r) 16 0 65535 (found_of c.args.matches.now) (codes "port") None (λ u x g. g.0) (omega arith) c.in-None.ensures.none c.in-None.ensures.value)
