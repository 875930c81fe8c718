-- A command that was run, and what its reply leads to.
use Rattle.std.proofs.Common.{◌≡◌, ◌≢◌, ℕ, suc, List, [], ◌∷◌, ◌++◌, length, refl, sym, ap, subst, ◌∙◌, inl, inr, true}
use Rattle.std.specs.Prelude.{Option}
use Rattle.tab_term.specs.Data.{PlainTerms}
use Rattle.tab_term.specs.declared.term.Term.{Term}
use Rattle.tab_model.specs.declared.data.Operation.{Operation}
use Rattle.tab_model.specs.declared.data.Part.{Part}
use Rattle.tab_model.specs.declared.data.Part.TheVariants as part
use Rattle.tab_model.specs.declared.data.Command.{Command}
use Rattle.tab_model.specs.declared.data.Command.TheVariants as command
use Rattle.tab_model.specs.declared.data.Reply.{Reply}
use Rattle.tab_model.specs.declared.data.Reply.TheVariants as reply
use Rattle.tab_model.specs.Parts.{command_of}
use Rattle.tab_oneshot.specs.declared.answer.Sort.{Sort}
use Rattle.tab_oneshot.specs.declared.answer.Sort.TheVariants as sort
use Rattle.tab_oneshot.specs.declared.turn.Turn as code
use Rattle.tab_oneshot.specs.Calls.{Call, Asked, Waited}
use Rattle.tab_oneshot.specs.Attempts.{sort_of, Asks, Turn, Stops, AfterOperation, AfterWait, AfterAsked, takes_place, HandsIn, Serves}
use Rattle.tab_oneshot.specs.Parts.{turn_of}

module _ {W : Type 0} (shows : W → List Call → W → Type 0) where
  -- what the seat shows goes on
  abbrev pub GoesOn : Type 0
  GoesOn = (x y z : W) (first more : List Call) → shows x first y → shows y more z → shows x (first ++ more) z

  pub asked : GoesOn → (x y z : W) (c d : Command) (q : Reply) (s : Sort) (After : Sort → Reply → List Call → Type 0) → d ≡ c → s ≡ sort_of q → shows x (Asked d q ∷ []) y
      → ((more : List Call) × shows y more z × After s q more) → (all : List Call) × shows x all z × Asks c After all
  asked on x y z c d q s After e f h (more, k, a) =
      (Asked c q ∷ more, on x y z (Asked c q ∷ []) more (subst (λ b. shows x (Asked b q ∷ []) y) e h) k, (q, more, refl, subst (λ v. After v q more) f a))

  pub handed : GoesOn → (x y z : W) (p : Part) (levels : List PlainTerms) (turn : Turn) (c d : Command) (q : Reply) (s : Sort) (After : Sort → Reply → List Call → Type 0)
      → ((calls : List Call) → Asks c After calls → HandsIn p levels calls turn) → d ≡ c → s ≡ sort_of q → shows x (Asked d q ∷ []) y
      → ((more : List Call) × shows y more z × After s q more) → (all : List Call) × shows x all z × Serves p levels all turn
  handed on x y z p levels turn c d q s After into e f h a = served (asked on x y z c d q s After e f h a)
    where
      served : ((all : List Call) × shows x all z × Asks c After all) → (all : List Call) × shows x all z × Serves p levels all turn
      served (all, k, b) = (all, k, inl (into all b))

  pub waits : GoesOn → (y w z : W) (q : Reply) (o : Option Reply) (levels : List PlainTerms) (turn : Turn) → shows y (Waited o ∷ []) w
      → ((more : List Call) × shows w more z × AfterWait o levels more turn) → (all : List Call) × shows y all z × AfterAsked sort.Waits q levels all turn
  waits on y w z q o levels turn h (more, k, a) = (Waited o ∷ more, on y w z (Waited o ∷ []) more h k, (o, more, refl, a))

  pub stopped : (x z : W) (n : ℕ) (q r : Reply) (t : code.Turn) (levels after stood : List PlainTerms) → q ≡ r → stood ≡ levels → length stood ≡ suc n
      → ((more : List Call) × shows x more z × ((ls later : List PlainTerms) → length ls ≡ suc n → Stops q ls more (turn_of t later)))
      → (all : List Call) × shows x all z × Stops r levels all (turn_of t after)
  stopped x z n q r t levels after stood e f h (more, k, s) = (more, k, subst (λ v. Stops v levels more (turn_of t after)) e (s levels after (ap length (sym f) ∙ h)))

  pub no_place : (x z : W) (p : Part) (levels : List PlainTerms) (turn : Turn) → takes_place p ≡ true
      → ((more : List Call) × shows x more z × Stops reply.NoMemory levels more turn) → (all : List Call) × shows x all z × Serves p levels all turn
  no_place x z p levels turn h (more, k, s) = (more, k, inr (h, s))

pub no_wait : (s : Sort) (q : Reply) (levels : List PlainTerms) (calls : List Call) (turn : Turn) → s ≢ sort.Waits → AfterOperation s q levels calls turn → AfterAsked s q levels calls turn
no_wait sort.Waits q levels calls turn n a = absurd (n refl)
no_wait s q levels calls turn n a = a

-- the part that is an operation, or an abort
pub part_of_operation : (p : Part) (o : Operation) → command_of p ≡ command.Do o → p ≡ part.Do o
part_of_operation (part.Do q) o e = cc
part_of_operation (part.Abort r) o e = absurd cc
part_of_operation part.Open o e = absurd cc
part_of_operation part.Close o e = absurd cc

pub part_of_abort : (p : Part) (r : Term) → command_of p ≡ command.Abort r → p ≡ part.Abort r
part_of_abort (part.Do q) r e = absurd cc
part_of_abort (part.Abort q) r e = cc
part_of_abort part.Open r e = absurd cc
part_of_abort part.Close r e = absurd cc
