use Rattle.std.proofs.Common.{◌∙◌}
use Rattle.clap.proofs.WalkLemmas.{one_text-rows}
use Rattle.clap.specs.Words.{found_of}
use Rattle.tab_words.proofs.parsing.is_given.Goals as goal

pub returns : goal.returns
returns c =
    let same = one_text-rows (found_of c.args.matches.now) c.args.name.now in
    record {
      absent = λ e. c.get_flag.ensures.none (same ∙ e);
      given = λ e. c.get_flag.ensures.value (same ∙ e);
      untrue = λ e. c.get_flag.ensures.other (same ∙ e);
    }
