use Rattle.std.proofs.Common.{ap, sym, ◌∙◌, length, arith}
use Rattle.tab_etf.proofs.BriefsLemmas.{adds_as, number_one, number_four, number_big}
use Rattle.tab_etf.proofs.brief.add_number.Goals as goal

pub add_two-requires : goal.add_two-requires
add_two-requires c = omega (arith, ap length (number_one c.args.number c.if-number-lt256.true), c.requires)

pub add_all-requires : goal.add_all-requires
add_all-requires c =
    omega (arith, ap length (number_four c.args.number c.if-number-lt256.false c.if-number-lt2147483648.true), ap length c.tagged.ensures, c.requires)

pub add_big-requires : goal.add_big-requires
add_big-requires c = omega (arith, ap length (number_big c.args.number c.if-number-lt2147483648.false), c.requires)

pub returns-then-number-lt256 : goal.returns-then-number-lt256
returns-then-number-lt256 c = adds_as c.add_two.ensures (sym (number_one c.args.number c.if-number-lt256.true))

pub returns-then-number-lt2147483648 : goal.returns-then-number-lt2147483648
returns-then-number-lt2147483648 c =
    adds_as c.add_all.ensures (c.tagged.ensures ∙ sym (number_four c.args.number c.if-number-lt256.false c.if-number-lt2147483648.true))

pub returns-else-number-lt2147483648 : goal.returns-else-number-lt2147483648
returns-else-number-lt2147483648 c = adds_as c.add_big.ensures (sym (number_big c.args.number c.if-number-lt2147483648.false))
