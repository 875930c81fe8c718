use Rattle.tab_session.proofs.DriverEnds.{committed_once, comes_as_alone, else_undone, enters_once, else_enters_none}
use Rattle.tab_session.proofs.laws.a_one_shot_is_told_what_it_did.Goals as goal

pub returns : goal.returns
returns c = record {
  commit = committed_once;
  alone = comes_as_alone;
  undone = else_undone;
  entry = enters_once;
  no_entry = else_enters_none;
}
