use Rattle.std.proofs.Common.{sym, ◌∙◌, arith}
use Rattle.tab_core.specs.Parts.{parts_of, state_of}
use Rattle.tab_core.proofs.Answering as answering
use Rattle.tab_core.proofs.OutermostLemmas as lemmas
use Rattle.tab_core.proofs.machine.Machine.ending.Goals as goal

pub returns-in_default : goal.returns-in_default
returns-in_default g c =
    let m = parts_of c.args.self.now in
    let n = c.args.session in
    let i = c.args.place in
    sym (lemmas.none_ends (state_of m) n (lemmas.no_transaction_none m n i c.requires.kept c.requires.there (sym c.transaction.ensures ∙ c.in_default.is)))

pub returns-then-depth-gt0 : goal.returns-then-depth-gt0
returns-then-depth-gt0 g c =
    let m = parts_of c.args.self.now in
    let n = c.args.session in
    let i = c.args.place in
    let open_t = sym c.transaction.ensures ∙ c.in-Some.is in
    sym (lemmas.none_ends (state_of m) n (lemmas.child_none m n i c.requires.kept c.requires.there c.in-Some.transaction open_t (answering.above_zero _ (omega (arith, c.if-depth-gt0.true, c.depth.ensures)))))

pub returns : goal.returns
returns g c =
    let m = parts_of c.args.self.now in
    let n = c.args.session in
    let i = c.args.place in
    let open_t = sym c.transaction.ensures ∙ c.in-Some.is in
    lemmas.ends m n i c.requires.kept c.requires.there c.in-Some.transaction open_t _ c.updates.ensures c.requires.idle (answering.zero_is _ (omega (arith, c.if-depth-gt0.false, c.depth.ensures)))
