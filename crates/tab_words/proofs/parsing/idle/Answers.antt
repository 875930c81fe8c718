use Rattle.std.proofs.Common.{codes, arith, Some, None}
use Rattle.std.specs.Str.Parse.{ParsesUnsigned, ExplainsUnsignedError, HasUnsignedDigitsIfOk}
use Rattle.clap.specs.Words.{found_of}
use Rattle.tab_words.proofs.Reading.{may_be, none_out_of_range}
use Rattle.tab_words.proofs.parsing.idle.Goals as goal

pub returns-in-Some-clause-asked : goal.returns-in-Some-clause-asked
returns-in-Some-clause-asked c =
    may_be (λ bs r. ParsesUnsigned 32 10 bs r × ExplainsUnsignedError 10 bs r × HasUnsignedDigitsIfOk bs r) 32 1 86400 (found_of c.args.matches.now) (codes "idle") (Some c.in-Some.seconds) (λ u x g. g.0) (omega arith) c.in-Some.ensures.none c.in-Some.ensures.value

pub returns-in_default-clause-asked : goal.returns-in_default-clause-asked
returns-in_default-clause-asked c =
    let above = c.if-seconds-le86400.false in
    none_out_of_range _ _ _ _ c.in-Some.seconds (may_be (λ bs r. ParsesUnsigned 32 10 bs r × ExplainsUnsignedError 10 bs r × HasUnsignedDigitsIfOk bs r) 32 1 86400 (found_of c.args.matches.now) (codes "idle") (Some c.in-Some.seconds) (λ u x g. g.0) (omega arith) c.in-Some.ensures.none c.in-Some.ensures.value)
    (λ l m. omega (arith, above, m))

pub returns-in_default-2-clause-asked : goal.returns-in_default-2-clause-asked
returns-in_default-2-clause-asked c =
    let below = c.if-seconds-ge1.false in
    none_out_of_range _ _ _ _ c.in-Some.seconds (may_be (λ bs r. ParsesUnsigned 32 10 bs r × ExplainsUnsignedError 10 bs r × HasUnsignedDigitsIfOk bs r) 32 1 86400 (found_of c.args.matches.now) (codes "idle") (Some c.in-Some.seconds) (λ u x g. g.0) (omega arith) c.in-Some.ensures.none c.in-Some.ensures.value)
    (λ l m. omega (arith, below, l))

pub returns-in_default-3-clause-asked : goal.returns-in_default-3-clause-asked
returns-in_default-3-clause-asked c =
    may_be (λ bs r. ParsesUnsigned 32 10 bs r × ExplainsUnsignedError 10 bs r × HasUnsignedDigitsIfOk bs r) 32 1 86400 (found_of c.args.matches.now) (codes "idle") None (λ u x g. g.0) (omega arith) c.in_default.ensures.none c.in_default.ensures.value
