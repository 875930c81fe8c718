-- The parts of a one-shot, run alone on whole tables: what it answers, and the tables that it leaves, where it commits (the
-- Mnesia User's Guide, "Nested Transactions"; the rest is this project's own).
use Rattle.std.specs.Prelude.{ℕ, zero, suc, List, [], ◌∷◌, if◌then◌else◌, Option, Some, None, is_some}
use Rattle.tab_term.specs.Data.{PlainTerms, none}
use Rattle.tab_model.specs.declared.data.Part.{Part}
use Rattle.tab_model.specs.declared.data.Part.TheVariants as part
use Rattle.tab_model.specs.declared.data.Move.TheVariants.{Do, Open, Close}
use Rattle.tab_model.specs.declared.data.Reply.{Reply}
use Rattle.tab_model.specs.declared.data.Reply.TheVariants as reply
use Rattle.tab_model.specs.Catalogs.{Catalog}
use Rattle.tab_model.specs.Operations.{failure, answer}
use Rattle.tab_model.specs.Alone.{Mid, start, next, back}
use Rattle.tab_proto.specs.Replies.{reply_term}
use Rattle.tab_oneshot.specs.Attempts.{told, innermost, passed}

-- what is answered to a one-shot that commits, and the tables that it leaves
pub record Commit : Type 0 where
  pub replies : PlainTerms
  pub tables : Catalog

-- the innermost level ends so: the level around it goes on behind what is left of it, and with level 1 all is undone
abbrev pub ended : (ℕ → Mid → List PlainTerms → Option Commit) → Mid → Reply → List PlainTerms → Option Commit
ended Rest m r (ts ∷ us ∷ outer) = Rest 1 (back m) (told (reply_term r) (us ∷ outer))
ended Rest m r levels = None

-- an inner level commits: {atomic, Replies} is its answer in the level around, which goes on; level 1 has no such end
abbrev pub closed : (ℕ → Mid → List PlainTerms → Option Commit) → Mid → List PlainTerms → Option Commit
closed Rest m (ts ∷ us ∷ outer) = Rest 0 (next m Close) (told (reply_term (reply.AtomicTerms ts)) (us ∷ outer))
closed Rest m levels = None

-- these parts, of which those before the ends of so many levels are left out, with these answers in the open levels
abbrev pub run_on : List Part → ℕ → Mid → List PlainTerms → Option Commit
run_on [] skipped m levels = Some (record { replies = innermost levels; tables = m.now })
run_on (p ∷ parts) (suc n) m levels = run_on parts (passed p n) m levels
run_on (part.Do o ∷ parts) zero m levels =
    if is_some (failure m.now o) then ended (run_on parts) m (answer m.now o) levels else run_on parts 0 (next m (Do o)) (told (reply_term (answer m.now o)) levels)
run_on (part.Abort r ∷ parts) zero m levels = ended (run_on parts) m (reply.UserAbort r) levels
run_on (part.Open ∷ parts) zero m levels = run_on parts 0 (next m Open) (none ∷ levels)
run_on (part.Close ∷ parts) zero m levels = closed (run_on parts) m levels

-- all parts, by a transaction of this age
abbrev pub run_alone : List Part → Catalog → ℕ → Option Commit
run_alone parts w age = run_on parts 0 (start w age) (none ∷ [])
