use Rattle.std.proofs.Common.{arith, Some, None}
use Rattle.std.specs.Str.Parse.{ParsesUnsigned, ExplainsUnsignedError, HasUnsignedDigitsIfOk}
use Rattle.clap.specs.Words.{found_of}
use Rattle.tab_words.proofs.Reading.{may_be, chosen, left_out, out_of_range}
use Rattle.tab_words.proofs.parsing.number.Goals as goal

pub returns-in-Some-clause-asked : goal.returns-in-Some-clause-asked
returns-in-Some-clause-asked c =
    let fits = c.ranges.most.fits in
    chosen _ _ _ _ _ _ (may_be (λ bs r. ParsesUnsigned 32 10 bs r × ExplainsUnsignedError 10 bs r × HasUnsignedDigitsIfOk bs r) 32 c.args.least c.args.most (found_of c.args.matches.now) c.args.name.now (Some c.in-Some.number) (λ u x g. g.0) (omega (arith, fits)) c.in-Some.ensures.none c.in-Some.ensures.value)

pub returns-in_default-clause-asked : goal.returns-in_default-clause-asked
returns-in_default-clause-asked c =
    let fits = c.ranges.most.fits in
    let above = c.if-number-most.false in
    out_of_range _ _ _ _ _ c.in-Some.number (may_be (λ bs r. ParsesUnsigned 32 10 bs r × ExplainsUnsignedError 10 bs r × HasUnsignedDigitsIfOk bs r) 32 c.args.least c.args.most (found_of c.args.matches.now) c.args.name.now (Some c.in-Some.number) (λ u x g. g.0) (omega (arith, fits)) c.in-Some.ensures.none c.in-Some.ensures.value)
    (λ l m. omega (arith, above, m))

pub returns-in_default-2-clause-asked : goal.returns-in_default-2-clause-asked
returns-in_default-2-clause-asked c =
    let fits = c.ranges.most.fits in
    let below = c.if-least-number.false in
    out_of_range _ _ _ _ _ c.in-Some.number (may_be (λ bs r. ParsesUnsigned 32 10 bs r × ExplainsUnsignedError 10 bs r × HasUnsignedDigitsIfOk bs r) 32 c.args.least c.args.most (found_of c.args.matches.now) c.args.name.now (Some c.in-Some.number) (λ u x g. g.0) (omega (arith, fits)) c.in-Some.ensures.none c.in-Some.ensures.value)
    (λ l m. omega (arith, below, l))

pub returns-in_default-3-clause-asked : goal.returns-in_default-3-clause-asked
returns-in_default-3-clause-asked c =
    let fits = c.ranges.most.fits in
    left_out _ _ _ _ _ (may_be (λ bs r. ParsesUnsigned 32 10 bs r × ExplainsUnsignedError 10 bs r × HasUnsignedDigitsIfOk bs r) 32 c.args.least c.args.most (found_of c.args.matches.now) c.args.name.now None (λ u x g. g.0) (omega (arith, fits)) c.in_default.ensures.none c.in_default.ensures.value)
