-- Worked one-shots, by computing: the driver's calls on a session, what they leave, and what the parts come to alone.
use Rattle.std.proofs.Common.{◌≡◌, ℕ, zero, suc, List, [], ◌∷◌, refl, inl}
use Rattle.std.specs.Prelude.{Some, None, pos, codes}
use Rattle.tab_term.specs.Data.{PlainTerm, atom, list, pair, PlainTerms, none, one_more}
use Rattle.tab_term.specs.declared.term.Term.TheVariants as is
use Rattle.tab_term.specs.Canon.{canon, int_contents}
use Rattle.tab_term.specs.declared.term.Term.{Term}
use Rattle.tab_model.specs.declared.data.Operation.{Operation}
use Rattle.tab_model.specs.declared.data.Operation.TheVariants as op
use Rattle.tab_model.specs.declared.data.Part.{Part}
use Rattle.tab_model.specs.declared.data.Part.TheVariants as part
use Rattle.tab_model.specs.declared.data.Command.{Command}
use Rattle.tab_model.specs.declared.data.Command.TheVariants as command
use Rattle.tab_model.specs.declared.data.Reply.{Reply}
use Rattle.tab_model.specs.declared.data.Reply.TheVariants as reply
use Rattle.tab_model.specs.State.{State, new, transaction_at, locks_held_by}
use Rattle.tab_model.specs.declared.ask.Ask.TheVariants.{Do as DoCommand}
use Rattle.tab_model.specs.Outcome.{outcome}
use Rattle.tab_model.specs.Run.{Allowed, after_all}
use Rattle.tab_model.proofs.Splits.{none_handed}
use Rattle.tab_model.proofs.WorkedFixtures.{record_of, rec, usual, joins, creates, begins, commits, writes}
use Rattle.tab_oneshot.specs.Calls.{Call, Asked, Again}
use Rattle.tab_oneshot.specs.Attempts.{GoesOn, IsOver, Restarts}
use Rattle.tab_oneshot.specs.OneShots.{IsTried}
use Rattle.tab_session.specs.StepsMade.{StepMadeOrRefused}
use Rattle.tab_session.specs.OneSessions.{IsDriven}
use Rattle.tab_session.specs.PartsAlone.{run_alone}

abbrev after : State → ℕ → Command → State
after σ n c = (outcome σ [] n (DoCommand c)).state

abbrev said : State → ℕ → Command → Reply
said σ n c = (outcome σ [] n (DoCommand c)).reply

-- a step in which no post is put into
made : (σ : State) (n : ℕ) (c : Command) → Allowed σ [] n (DoCommand c) → StepMadeOrRefused σ n (DoCommand c) (said σ n c) (after σ n c)
made σ n c allowed = inl (record { over = []; allowed = allowed; entry = (outcome σ [] n (DoCommand c)).entry; made = refl })

abbrev write_a : Operation
write_a = op.Write (is.Tuple (record_of (codes "t") 1 (codes "a")))

abbrev write_b : Operation
write_b = op.Write (is.Tuple (record_of (codes "t") 1 (codes "b")))

abbrev read : Operation
read = op.Read (codes "t") (is.Int (pos 1))

abbrev why : Term
why = is.Atom (codes "why")

-- ---- a level that is aborted within

-- one session, and an empty table t
abbrev one_table : State
one_table = after_all (new usual) (joins 1 ∷ creates 1 (codes "t") none ∷ [])

-- {transaction, [{write,{t,1,a}}, {transaction, [{write,{t,1,b}}, {abort,why}]}, {read,t,1}], 0}
abbrev inner_aborts : List Part
inner_aborts = part.Do write_a ∷ part.Open ∷ part.Do write_b ∷ part.Abort why ∷ part.Close ∷ part.Do read ∷ []

abbrev ok : PlainTerm
ok = atom (codes "ok")

abbrev aborted : PlainTerm
aborted = pair (atom (codes "aborted")) (atom (codes "why"))

abbrev found : PlainTerms
found = one_more (rec (codes "t") 1 (codes "a")) none

-- [ok, {aborted, why}, [{t,1,a}]]
abbrev three_answers : PlainTerms
three_answers = one_more ok (one_more aborted (one_more (list found) none))

abbrev begun : State
begun = after one_table 1 (command.OneShot inner_aborts 0)

abbrev wrote : State
wrote = after begun 1 (command.Do write_a)

abbrev nested : State
nested = after wrote 1 command.Begin

abbrev wrote_within : State
wrote_within = after nested 1 (command.Do write_b)

abbrev undone : State
undone = after wrote_within 1 (command.Abort why)

abbrev has_read : State
has_read = after undone 1 (command.Do read)

abbrev committed : State
committed = after has_read 1 command.Commit

-- what is asked and answered in its one attempt
abbrev attempt : List Call
attempt = Asked (command.Do write_a) reply.Done ∷ Asked command.Begin (reply.Tid 1) ∷ Asked (command.Do write_b) reply.Done ∷ Asked (command.Abort why) (reply.UserAbort why) ∷ Asked (command.Do read) (reply.Found found) ∷ Asked command.Commit (reply.Atomic 1) ∷ []

pub row_inner_aborts : IsDriven one_table 1 (command.OneShot inner_aborts 0) (reply.AtomicTerms three_answers) committed
unfolding outcome canon int_contents
row_inner_aborts = record {
  calls = Asked (command.OneShot inner_aborts 0) (reply.Tid 1) ∷ attempt;
  ran = (
    begun,
    made one_table 1 (command.OneShot inner_aborts 0) none_handed,
    (
      wrote,
      made begun 1 (command.Do write_a) none_handed,
      (
        nested,
        made wrote 1 command.Begin none_handed,
        (
          wrote_within,
          made nested 1 (command.Do write_b) none_handed,
          (undone, made wrote_within 1 (command.Abort why) none_handed, (has_read, made undone 1 (command.Do read) none_handed, (committed, made has_read 1 command.Commit none_handed, refl))),
        ),
      ),
    ),
  );
  one_shot = inl (
    reply.Tid 1,
    attempt,
    refl,
    (
      attempt,
      [],
      Some (reply.AtomicTerms three_answers),
      refl,
      inl (
        Asked (command.Do write_a) reply.Done ∷ [],
        _,
        GoesOn 0 (one_more ok none ∷ []),
        refl,
        inl (reply.Done, [], refl, inl (refl, refl)),
        (
          Asked command.Begin (reply.Tid 1) ∷ [],
          _,
          GoesOn 0 (none ∷ one_more ok none ∷ []),
          refl,
          inl (reply.Tid 1, [], refl, (refl, refl)),
          (
            Asked (command.Do write_b) reply.Done ∷ [],
            _,
            GoesOn 0 (one_more ok none ∷ one_more ok none ∷ []),
            refl,
            inl (reply.Done, [], refl, inl (refl, refl)),
            (
              Asked (command.Abort why) (reply.UserAbort why) ∷ [],
              _,
              GoesOn 1 (one_more ok (one_more aborted none) ∷ []),
              refl,
              inl (reply.UserAbort why, [], refl, inl (refl, refl)),
              (
                Asked (command.Do read) (reply.Found found) ∷ [],
                _,
                GoesOn 0 (three_answers ∷ []),
                refl,
                inl (reply.Found found, [], refl, inl (refl, refl)),
                (reply.AtomicTerms three_answers, (reply.Atomic 1, [], refl, (refl, refl)), refl),
              ),
            ),
          ),
        ),
      ),
      (refl, refl),
    ),
  );
}

-- its parts alone
pub row_alone : run_alone inner_aborts one_table.tables 1 ≡ Some (record { replies = three_answers; tables = committed.tables })
unfolding outcome canon int_contents
row_alone = refl

-- the write of the level that is aborted is undone
pub row_committed : committed.tables ≡ (after_all one_table (begins 1 ∷ writes 1 (codes "t") 1 (codes "a") ∷ commits 1 ∷ [])).tables
unfolding outcome canon int_contents
row_committed = refl

pub row_none_open : transaction_at committed 1 ≡ None
unfolding outcome canon int_contents
row_none_open = refl

-- ---- an operation that fails at level 1

abbrev read_nosuch : Operation
read_nosuch = op.Read (codes "nosuch") (is.Int (pos 1))

-- [{write,{t,1,a}}, {read,nosuch,1}, {read,t,1}]
abbrev fails : List Part
fails = part.Do write_a ∷ part.Do read_nosuch ∷ part.Do read ∷ []

abbrev begun_to_fail : State
begun_to_fail = after one_table 1 (command.OneShot fails 5)

abbrev wrote_first : State
wrote_first = after begun_to_fail 1 (command.Do write_a)

abbrev failed : State
failed = after wrote_first 1 (command.Do read_nosuch)

-- {aborted, {no_exists, nosuch}}
pub row_fails : IsDriven one_table 1 (command.OneShot fails 5) (reply.NoTable (codes "nosuch")) failed
unfolding outcome canon int_contents
row_fails = record {
  calls = Asked (command.OneShot fails 5) (reply.Tid 1) ∷ Asked (command.Do write_a) reply.Done ∷ Asked (command.Do read_nosuch) (reply.NoTable (codes "nosuch")) ∷ [];
  ran = (begun_to_fail, made one_table 1 (command.OneShot fails 5) none_handed, (wrote_first, made begun_to_fail 1 (command.Do write_a) none_handed, (failed, made wrote_first 1 (command.Do read_nosuch) none_handed, refl)));
  one_shot = inl (
    reply.Tid 1,
    _,
    refl,
    (
      Asked (command.Do write_a) reply.Done ∷ Asked (command.Do read_nosuch) (reply.NoTable (codes "nosuch")) ∷ [],
      [],
      Some (reply.NoTable (codes "nosuch")),
      refl,
      inl (
        Asked (command.Do write_a) reply.Done ∷ [],
        _,
        GoesOn 0 (one_more ok none ∷ []),
        refl,
        inl (reply.Done, [], refl, inl (refl, refl)),
        (
          Asked (command.Do read_nosuch) (reply.NoTable (codes "nosuch")) ∷ [],
          _,
          IsOver (reply.NoTable (codes "nosuch")),
          refl,
          inl (reply.NoTable (codes "nosuch"), [], refl, (refl, refl)),
          (refl, refl),
        ),
      ),
      (refl, refl),
    ),
  );
}

pub row_fails_alone : run_alone fails one_table.tables 1 ≡ None
unfolding outcome canon int_contents
row_fails_alone = refl

pub row_undone : failed.tables ≡ one_table.tables
unfolding outcome canon int_contents
row_undone = refl

-- ---- restarts

-- session 1 holds a write lock on {t,1}
abbrev locked : State
locked = after_all (new usual) (joins 1 ∷ joins 2 ∷ creates 1 (codes "t") none ∷ begins 1 ∷ writes 1 (codes "t") 1 (codes "a") ∷ [])

-- session 2's {transaction, [{read,t,1}], 2}
abbrev reads_once : Command
reads_once = command.OneShot (part.Do read ∷ []) 2

abbrev begun_anew : ℕ → State
begun_anew zero = after locked 2 reads_once
begun_anew (suc k) = after (begun_anew k) 2 (command.Do read)

abbrev zero_reason : Term
zero_reason = is.Int (pos 0)

abbrev given_up : State
given_up = after (begun_anew 3) 2 (command.Abort zero_reason)

-- so many attempts, each restarted, and the end of level 1
abbrev attempts : ℕ → List Call
attempts zero = Asked (command.Abort zero_reason) (reply.UserAbort zero_reason) ∷ []
attempts (suc zero) = Asked (command.Do read) reply.Restart ∷ attempts zero
attempts (suc k) = Asked (command.Do read) reply.Restart ∷ Again ∷ attempts k

pub row_nomore : IsDriven locked 2 reads_once reply.NoMore given_up
unfolding outcome canon int_contents
row_nomore = record {
  calls = Asked reads_once (reply.Tid 2) ∷ attempts 3;
  ran = (
    begun_anew 0,
    made locked 2 reads_once none_handed,
    (
      begun_anew 1,
      made (begun_anew 0) 2 (command.Do read) none_handed,
      (
        begun_anew 2,
        made (begun_anew 1) 2 (command.Do read) none_handed,
        (
          begun_anew 3,
          made (begun_anew 2) 2 (command.Do read) none_handed,
          (given_up, made (begun_anew 3) 2 (command.Abort zero_reason) none_handed, refl),
        ),
      ),
    ),
  );
  one_shot = inl (
    reply.Tid 2,
    attempts 3,
    refl,
    (
      first,
      Again ∷ attempts 2,
      None,
      refl,
      restarts,
      (
        attempts 2,
        refl,
        (
          first,
          Again ∷ attempts 1,
          None,
          refl,
          restarts,
          (
            attempts 1,
            refl,
            (first, attempts 0, None, refl, restarts, (reply.UserAbort zero_reason, [], refl, (refl, refl))),
          ),
        ),
      ),
    ),
  );
}
  where
    first : List Call
    first = Asked (command.Do read) reply.Restart ∷ []

    restarts : IsTried (part.Do read ∷ []) first None
    restarts = inl (first, [], Restarts, refl, inl (reply.Restart, [], refl, (refl, refl)), (refl, refl))

-- it holds no lock then, and waits for none
pub row_no_lock : locks_held_by (transaction_at given_up 2) ≡ []
unfolding outcome canon int_contents
row_no_lock = refl

pub row_no_request : given_up.queue ≡ []
unfolding outcome canon int_contents
row_no_request = refl
