use Rattle.std.proofs.Common.{arith, length}
use Rattle.tab_etf.proofs.Lengths.{atom_length, atom_short}
use Rattle.tab_etf.proofs.answers.word_len.Goals as goal

pub overflow_add-result : goal.overflow_add-result
overflow_add-result c = omega (arith, c.atom_len.ensures, atom_short (length c.args.word.now) (omega (arith, c.requires)), c.requires)

pub returns-clause-value : goal.returns-clause-value
returns-clause-value c = omega (arith, c.atom_len.ensures, atom_length c.args.word.now)

pub returns-clause-small : goal.returns-clause-small
returns-clause-small c = omega (arith, c.atom_len.ensures, atom_short (length c.args.word.now) (omega (arith, c.requires)), c.requires)
