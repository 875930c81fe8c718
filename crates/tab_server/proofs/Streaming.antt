-- The frames of a stream, and the replies to them.
use Rattle.std.specs.Prelude.{Result, Ok, Err, IfErr, IfOk, OnErr}
use Rattle.std.specs.Io.KnownBytes.{Consumes, Keeps, ReadConsumes}
use Rattle.std.proofs.Common.{◌≡◌, ◌⊎◌, inl, inr, ℕ, ◌<◌, ◌≤◌, ◌-◌, List, [], ◌∷◌, ◌++◌, Option, Some, None, Bool, true, false, not, refl, sym, ap, subst, ◌∙◌, append_assoc, length, take, drop, arith}
use Rattle.std.proofs.lemmas.List.{append-nil, take_all, length-take}
use Rattle.tab_etf.specs.Feeding.{Held, IsGoing}
use Rattle.tab_etf.specs.Frames.{limit, length_next, IsOver}
use Rattle.tab_etf.specs.declared.framing.FrameFault.{FrameFault}
use Rattle.tab_etf.specs.declared.framing.FrameFault.TheVariants as faults
use Rattle.tab_etf.specs.Streams.{front, payloads, rest_of, GoesOn, Stops}
use Rattle.tab_etf.proofs.Cuts.{empty_front, goes_none, payloads-front, payloads-none, stops_over}
use Rattle.tab_etf.proofs.KnownBytesLemmas.{Consumes-none, Consumes-then}
use Rattle.tab_model.specs.declared.data.Reply.{Reply}
use Rattle.tab_model.specs.declared.data.Reply.TheVariants as reply
use mathlib.Core.List.{IsPrefix}
use Rattle.tab_post.proofs.Prefixes.{prefix_self}
use Rattle.tab_book.specs.Logs.{Made}
use Rattle.tab_server.specs.declared.answers.Answers.{Answers}
use Rattle.tab_server.specs.declared.incoming.Incoming.{Incoming}
use Rattle.tab_server.specs.declared.place.Place.{Place}
use Rattle.tab_server.specs.declared.place.Place.TheVariants.{Length, Payload, Over}
use Rattle.tab_server.specs.Placed.{is_between, is_over, GoesPast, IsAt, IsPassed}
use Rattle.tab_server.specs.Laws.{sends_none, sends_on}
use Rattle.tab_server.specs.Sending.{reply_frames}
use Rattle.tab_server.specs.Sent.{AreAnswered, Sends}
use Rattle.tab_server.specs.Streamed.{kept, early, AnswersBytes, AnswersLast, Gives, IsIn, IsSkipped, IsStreamAnswered, IsStreamStopped, SendsAnswers, SendsLast, TakesLast, TakesPart}
use Rattle.tab_server.proofs.Answering.{each_on, frames_behind}
use Rattle.tab_server.proofs.Placing.{at_front, bytes_at, frame_goes, goes_further, nothing_at, rest_split}

false_is_true : false ≡ true → ⊥
false_is_true e = cc

-- ---- results

-- what follows from an answer
pub ok_map : {A E : Type 0} (P Q : A → Type 0) (r : Result A E) → ((x : A) → P x → Q x) → IfOk r P → IfOk r Q
ok_map P Q (Ok x) f h = f x h
ok_map P Q (Err e) f h = tt

-- what follows from an error
pub err_map : {A E : Type 0} (P Q : E → Type 0) (r : Result A E) → ((e : E) → P e → Q e) → IfErr r P → IfErr r Q
err_map P Q (Ok x) f h = tt
err_map P Q (Err e) f h = f e h

-- the same, of any error
pub on_err : {A E P Q : Type 0} (r : Result A E) → OnErr r P → (P → Q) → OnErr r Q
on_err (Ok x) h f = tt
on_err (Err e) h f = f h

pub always_err : {A E P : Type 0} (r : Result A E) → P → OnErr r P
always_err (Ok x) h = tt
always_err (Err e) h = h

-- what holds of this error
pub err_at : {A E : Type 0} (P : E → Type 0) (r : Result A E) (e : E) → r ≡ Err e → IfErr r P → P e
err_at P (Ok x) e same h = absurd cc
err_at P (Err x) e same h = let k : x ≡ e = cc in subst P k h

pub broken_not : {P : Type 0} (b : Bool) → b ≡ true → b ≡ false → P
broken_not b e f = absurd (false_is_true (sym f ∙ e))

-- ---- a part of a piece

pub not_skipped : (s : Bool) (k : ℕ) → (s ≡ true → k ≡ 0) → 0 < k → s ≡ false
not_skipped false k h lt = refl
not_skipped true k h lt = let none : k ≡ 0 = h refl in absurd (omega arith)

pub is_false : (s : Bool) → (s ≡ true → ⊥) → s ≡ false
is_false false h = refl
is_false true h = absurd (h refl)

pub nothing_left : (rest : List ℕ) (count : ℕ) → count ≡ length rest → length (take (length rest - count) (drop count rest)) ≡ 0
nothing_left rest count e = omega (arith, length-take (length rest - count) (drop count rest))

pub parts_on : (done rest piece : List ℕ) (count : ℕ) → piece ≡ done ++ rest → piece ≡ (done ++ take count rest) ++ take (length rest - count) (drop count rest)
parts_on done rest piece count e =
    e ∙ ap (λ (r : List ℕ). done ++ r) (rest_split count rest) ∙ sym (append_assoc done (take count rest) (take (length rest - count) (drop count rest)))

pub parts_at : (at done rest piece : List ℕ) (count : ℕ) → piece ≡ done ++ rest → ((at ++ done) ++ take count rest) ++ take (length rest - count) (drop count rest) ≡ at ++ piece
parts_at at done rest piece count e =
    ap (λ (r : List ℕ). r ++ take (length rest - count) (drop count rest)) (append_assoc at done (take count rest)) ∙ append_assoc at (done ++ take count rest) (take (length rest - count) (drop count rest)) ∙ ap (λ (r : List ℕ). at ++ r) (sym (parts_on done rest piece count e))

-- ---- a splitter and the position

some_or_none : (o : Option (List ℕ × List ℕ)) → (o ≡ None) ⊎ ((x : List ℕ × List ℕ) × (o ≡ Some x))
some_or_none None = inl refl
some_or_none (Some x) = inr (x, refl)

no_front : (rest : List ℕ) → payloads rest ≡ [] → front rest ≡ None
no_front rest e = elim (some_or_none (front rest)) [
  | inl none ↦ none
  | inr some ↦ let k : [] ≡ some.0.0 ∷ payloads some.0.1 = sym e ∙ (payloads-front rest some.0.0 some.0.1 some.1).0 in cc
]

-- two that have taken all frames of the same bytes keep the same bytes
synced : (bytes rest left : List ℕ) (given others : List (List ℕ)) → GoesOn bytes given rest → payloads rest ≡ [] → GoesOn bytes others left → front left ≡ None → left ≡ rest
synced bytes rest left given others g none h e =
    sym (payloads-none left e).1 ∙ ap rest_of (sym (append-nil left)) ∙ sym (h.ends []) ∙ g.ends [] ∙ ap rest_of (append-nil rest) ∙ (payloads-none rest (no_front rest none)).1

pub gives : (at part : List ℕ) (old new : Incoming) (given : List (List ℕ)) → IsIn at old → old.skips ≡ false → new.skips ≡ false → IsGoing old.splitter new.splitter part given → payloads new.splitter.rest ≡ [] → GoesPast (at ++ part) new.place → Gives (at ++ part) new given
gives at part old new given i e none g empty p =
    let same : old.splitter.rest ≡ at = i.rest ∙ ap (λ s. kept s at) e in
    let goes : GoesOn (at ++ part) given new.splitter.rest = subst (λ (b : List ℕ). GoesOn (b ++ part) given new.splitter.rest) same g.goes in
    let left : p.left ≡ new.splitter.rest = synced (at ++ part) new.splitter.rest p.left given p.given goes empty p.goes (at_front p.left new.place p.at) in
    record {
      left = new.splitter.rest;
      goes = goes;
      is_in = record {
        going = g.still;
        rest = ap (λ s. kept s new.splitter.rest) (sym none);
        at = subst (λ (b : List ℕ). IsAt b new.place) left p.at;
        inside = λ k. absurd (false_is_true (sym none ∙ k));
      };
      none = none;
    }

-- ---- what was read

-- all payloads of what was read are done
all_given : (bytes left : List ℕ) (given : List (List ℕ)) → GoesOn bytes given left → front left ≡ None → (payloads bytes ≡ given) × (rest_of bytes ≡ left)
all_given bytes left given g e =
    let none = payloads-none left e in (
      ap payloads (sym (append-nil bytes)) ∙ g.found [] ∙ ap (λ (x : List ℕ). given ++ payloads x) (append-nil left) ∙ ap (λ (x : List (List ℕ)). given ++ x) none.0 ∙ append-nil given,
      ap rest_of (sym (append-nil bytes)) ∙ g.ends [] ∙ ap rest_of (append-nil left) ∙ none.1,
    )

no_length : (x : List ℕ) → x ≡ [] → 0 < length x → ⊥
no_length x e lt = let none : length x ≡ 0 = ap length e in omega arith

is_over_next : (o : Option ℕ) (m : ℕ) → o ≡ Some m → limit < m → IsOver o m
is_over_next o m e lt = rw e (refl, lt)

-- ---- a frame that is skipped

module _ (n : ℕ) where
  skipped_by : (w : List Made) (at part : List ℕ) (old new : Incoming) (replies : List (Option Reply)) → new.splitter.over ≡ None → new.splitter.rest ≡ [] → new.skips ≡ not (is_between new.place) → early old.skips ++ replies ≡ Some reply.NoMemory ∷ []
      → IsPassed (at ++ part) new.place → AnswersBytes n w w (at ++ part) old new replies
  skipped_by w at part old new replies over rest skips one (inl (here, k)) =
      let true_now : new.skips ≡ true = skips ∙ ap not k in
      record {
        given = [];
        left = at ++ part;
        goes = goes_none (at ++ part);
        is_in = record { going = over; rest = rest ∙ ap (λ s. kept s (at ++ part)) (sym true_now); at = here; inside = λ e. k };
        said = [];
        each = prefix_self w;
        same = one ∙ ap early (sym true_now);
      }
  skipped_by w at part old new replies over rest skips one (inr (p, f, k)) =
      let false_now : new.skips ≡ false = skips ∙ ap not k in
      record {
        given = p ∷ [];
        left = [];
        goes = frame_goes (at ++ part) p f;
        is_in = record { going = over; rest = rest ∙ ap (λ s. kept s []) (sym false_now); at = nothing_at new.place k; inside = λ e. absurd (false_is_true (sym false_now ∙ e)) };
        said = Some reply.NoMemory ∷ [];
        each = (w, inr (refl, prefix_self w), prefix_self w);
        same = one ∙ ap (λ s. Some reply.NoMemory ∷ early s) (sym false_now);
      }

  pub refused : (w : List Made) (at part : List ℕ) (old new : Incoming) → IsIn at old → old.skips ≡ false → new.splitter ≡ record { rest = []; over = None; before = [] } → new.skips ≡ not (is_between new.place) → IsPassed (at ++ part) new.place
      → AnswersBytes n w w (at ++ part) old new (Some reply.NoMemory ∷ [])
  refused w at part old new i e fresh skips p =
      skipped_by w at part old new (Some reply.NoMemory ∷ []) (ap (λ (h : Held). h.over) fresh) (ap (λ (h : Held). h.rest) fresh) skips (ap (λ s. early s ++ (Some reply.NoMemory ∷ [])) e) p

  pub passed_by : (w : List Made) (at part : List ℕ) (old new : Incoming) → IsIn at old → old.skips ≡ true → new.splitter ≡ old.splitter → new.skips ≡ not (is_between new.place) → IsPassed (at ++ part) new.place → AnswersBytes n w w (at ++ part) old new []
  passed_by w at part old new i e same skips p =
      skipped_by w at part old new [] (ap (λ (h : Held). h.over) same ∙ i.going) (ap (λ (h : Held). h.rest) same ∙ i.rest ∙ ap (λ s. kept s at) e) skips (ap (λ s. early s ++ []) e) p

  pub answers_none : (p q : List Made) → IsPrefix p q → (at : List ℕ) (x : Incoming) → IsIn at x → AnswersBytes n p q (at ++ []) x x []
  answers_none p q b at x i = record {
    given = [];
    left = at;
    goes = subst (λ (b : List ℕ). GoesOn b [] at) (sym (append-nil at)) (goes_none at);
    is_in = i;
    said = [];
    each = b;
    same = append-nil (early x.skips);
  }

  is_over_at : (bytes : List ℕ) (place : Place) → IsAt bytes place → is_over place ≡ true → (m : ℕ) × Stops bytes [] m
  is_over_at bytes (Length count head) h e = absurd (false_is_true e)
  is_over_at bytes (Payload left) h e = absurd (false_is_true e)
  is_over_at bytes Over (m, h) e = (m, stops_over bytes [] bytes m (goes_none bytes) h)

  pub over_answered : (w : List Made) (bytes : List ℕ) (x : Incoming) → IsIn bytes x → x.skips ≡ true → is_over x.place ≡ true → AnswersLast n w w bytes x []
  over_answered w bytes x i skips e =
      let s = is_over_at bytes x.place i.at e in
      record {
        given = [];
        over = s.0;
        stops = s.1;
        said = [];
        each = prefix_self w;
        last = Some reply.NoMemory;
        is_last = inr refl;
        same = ap (λ b. early b ++ []) skips;
      }

  -- ---- replies, one after another

  regroup : (a r s b c t d : List (Option Reply)) → a ++ r ≡ s ++ b → b ++ c ≡ t ++ d → a ++ (r ++ c) ≡ (s ++ t) ++ d
  regroup a r s b c t d e f =
      sym (append_assoc a r c) ∙ ap (λ x. x ++ c) e ∙ append_assoc s b c ∙ ap (λ x. s ++ x) f ∙ sym (append_assoc s t d)

  pub answers_on : (p q w : List Made) (bytes part : List ℕ) (old mid new : Incoming) (first more : List (Option Reply)) (h : AnswersBytes n p q bytes old mid first) → AnswersBytes n q w (h.left ++ part) mid new more
      → AnswersBytes n p w (bytes ++ part) old new (first ++ more)
  answers_on p q w bytes part old mid new first more h k = record {
    given = h.given ++ k.given;
    left = k.left;
    goes = goes_further bytes h.left part k.left h.given k.given h.goes k.goes;
    is_in = k.is_in;
    said = h.said ++ k.said;
    each = each_on n p q w h.given k.given h.said k.said h.each k.each;
    same = regroup (early old.skips) first h.said (early mid.skips) more k.said (early new.skips) h.same k.same;
  }

  stops_further : (past held piece : List ℕ) (done given : List (List ℕ)) (m : ℕ) → GoesOn past done held → Stops (held ++ piece) given m → Stops (past ++ piece) (done ++ given) m
  stops_further past held piece done given m g h =
      let step : (more : List ℕ) → rest_of ((past ++ piece) ++ more) ≡ rest_of ((held ++ piece) ++ more) = λ more. ap rest_of (append_assoc past piece more) ∙ g.ends (piece ++ more) ∙ ap rest_of (sym (append_assoc held piece more)) in
      record {
        found = λ more. ap payloads (append_assoc past piece more) ∙ g.found (piece ++ more) ∙ ap (λ (x : List ℕ). done ++ payloads x) (sym (append_assoc held piece more)) ∙ ap (λ (x : List (List ℕ)). done ++ x) (h.found more);
        ends = λ more e. h.ends more (sym (step more) ∙ e);
        next = λ more. subst (λ (r : List ℕ). length_next r ≡ Some m) (sym (step more)) (h.next more);
        over = h.over;
      }

  pub answers_last : (p q w : List Made) (bytes part : List ℕ) (old mid : Incoming) (first more : List (Option Reply)) (h : AnswersBytes n p q bytes old mid first) → AnswersLast n q w (h.left ++ part) mid more
      → AnswersLast n p w (bytes ++ part) old (first ++ more)
  answers_last p q w bytes part old mid first more h k = record {
    given = h.given ++ k.given;
    over = k.over;
    stops = stops_further bytes h.left part h.given k.given k.over h.goes k.stops;
    said = h.said ++ k.said;
    each = each_on n p q w h.given k.given h.said k.said h.each k.each;
    last = k.last;
    is_last = k.is_last;
    same = regroup (early old.skips) first h.said (early mid.skips) more k.said (k.last ∷ []) h.same k.same;
  }

  pub answers_given : (p q : List Made) (bytes : List ℕ) (old new : Incoming) (given : List (List ℕ)) (replies : List (Option Reply)) → old.skips ≡ false → Gives bytes new given → AreAnswered n p given replies q → AnswersBytes n p q bytes old new replies
  answers_given p q bytes old new given replies e g h = record {
    given = given;
    left = g.left;
    goes = g.goes;
    is_in = g.is_in;
    said = replies;
    each = h;
    same = ap (λ s. early s ++ replies) e ∙ sym (append-nil replies) ∙ ap (λ s. replies ++ early s) (sym g.none);
  }

  pub answers_too_long : (p q : List Made) (bytes : List ℕ) (old : Incoming) (given : List (List ℕ)) (m : ℕ) (replies : List (Option Reply)) → old.skips ≡ false → Stops bytes given m → AreAnswered n p given replies q → AnswersLast n p q bytes old (replies ++ Some reply.BadTerm ∷ [])
  answers_too_long p q bytes old given m replies e s h = record {
    given = given;
    over = m;
    stops = s;
    said = replies;
    each = h;
    last = Some reply.BadTerm;
    is_last = inl refl;
    same = ap (λ b. early b ++ (replies ++ Some reply.BadTerm ∷ [])) e;
  }

  stops_more : (bytes more : List ℕ) (given : List (List ℕ)) (m : ℕ) → Stops bytes given m → Stops (bytes ++ more) given m
  stops_more bytes more given m h = record {
    found = λ rest. ap payloads (append_assoc bytes more rest) ∙ h.found (more ++ rest);
    ends = λ rest e. h.ends (more ++ rest) (ap rest_of (sym (append_assoc bytes more rest)) ∙ e);
    next = λ rest. ap (λ (x : List ℕ). length_next (rest_of x)) (append_assoc bytes more rest) ∙ h.next (more ++ rest);
    over = h.over;
  }

  pub last_more : (p q : List Made) (bytes more : List ℕ) (old : Incoming) (replies : List (Option Reply)) → AnswersLast n p q bytes old replies → AnswersLast n p q (bytes ++ more) old replies
  last_more p q bytes more old replies h = record {
    given = h.given;
    over = h.over;
    stops = stops_more bytes more h.given h.over h.stops;
    said = h.said;
    each = h.each;
    last = h.last;
    is_last = h.is_last;
    same = h.same;
  }

  -- why a frame was not taken, if not since its length is over the limit
  pub refused_part : (w : List Made) (e : FrameFault) (bytes : List ℕ) (old new : Incoming) → ((m : ℕ) → e ≡ faults.FrameTooLong m → ⊥) → IsSkipped e bytes old new → AnswersBytes n w w bytes old new (Some reply.NoMemory ∷ [])
  refused_part w (faults.FrameTooLong m) bytes old new other h = absurd (other m refl)
  refused_part w faults.CutOff bytes old new other h = absurd h
  refused_part w faults.Device bytes old new other h = absurd h
  refused_part w faults.NoMemory bytes old new other h = h n w

  -- ---- what is sent

  module _ {O G : Type 0} (sent : O → Option (List ℕ)) (broken : O → Bool) where
    pub sends_then : (a b c : Answers O G) (rs ss : List (Option Reply)) → Sends sent broken a b (reply_frames rs) → Sends sent broken b c (reply_frames ss) → Sends sent broken a c (reply_frames (rs ++ ss))
    sends_then a b c rs ss h k =
        subst (λ (bytes : List ℕ). Sends sent broken a c bytes) (sym (frames_behind rs ss)) (sends_on sent broken a b c (reply_frames rs) (reply_frames ss) h k)

    pub nothing_sent : (p q : List Made) → IsPrefix p q → (at : List ℕ) (x : Incoming) (a : Answers O G) → IsIn at x → SendsAnswers sent broken n p q (at ++ []) x x a a
    nothing_sent p q b at x a i = record { replies = []; answers = answers_none p q b at x i; sends = sends_none sent broken a }

    pub served_on : (p q w : List Made) (bytes part : List ℕ) (x y z : Incoming) (a b c : Answers O G) (h : SendsAnswers sent broken n p q bytes x y a b) → SendsAnswers sent broken n q w (h.answers.left ++ part) y z b c
        → SendsAnswers sent broken n p w (bytes ++ part) x z a c
    served_on p q w bytes part x y z a b c h k = record {
      replies = h.replies ++ k.replies;
      answers = answers_on p q w bytes part x y z h.replies k.replies h.answers k.answers;
      sends = sends_then a b c h.replies k.replies h.sends k.sends;
    }

    pub served_last : (p q w : List Made) (bytes part : List ℕ) (x y : Incoming) (a b c : Answers O G) (h : SendsAnswers sent broken n p q bytes x y a b) → SendsLast sent broken n q w (h.answers.left ++ part) y b c
        → SendsLast sent broken n p w (bytes ++ part) x a c
    served_last p q w bytes part x y a b c h k = record {
      replies = h.replies ++ k.replies;
      answers = answers_last p q w bytes part x y h.replies k.replies h.answers k.answers;
      sends = sends_then a b c h.replies k.replies h.sends k.sends;
    }

    pub served_more : (p q : List Made) (bytes more : List ℕ) (x : Incoming) (a b : Answers O G) → SendsLast sent broken n p q bytes x a b → SendsLast sent broken n p q (bytes ++ more) x a b
    served_more p q bytes more x a b h = record { replies = h.replies; answers = last_more p q bytes more x h.replies h.answers; sends = h.sends }

    pub served_over : (p q : List Made) (bytes : List ℕ) (x : Incoming) (a : Answers O G) → AnswersLast n p q bytes x [] → SendsLast sent broken n p q bytes x a a
    served_over p q bytes x a h = record { replies = []; answers = h; sends = sends_none sent broken a }

    -- bytes, part of which were passed over
    pub served_skip : (p q w : List Made) (at piece : List ℕ) (count : ℕ) (x y z : Incoming) (a b : Answers O G) (h : AnswersBytes n p q (at ++ take count piece) x y [])
        → SendsAnswers sent broken n q w (h.left ++ take (length piece - count) (drop count piece)) y z a b → SendsAnswers sent broken n p w (at ++ piece) x z a b
    served_skip p q w at piece count x y z a b h k =
        subst (λ (bytes : List ℕ). SendsAnswers sent broken n p w bytes x z a b) (append_assoc at (take count piece) (take (length piece - count) (drop count piece)) ∙ ap (λ (r : List ℕ). at ++ r) (sym (rest_split count piece)))
        (served_on p q w (at ++ take count piece) (take (length piece - count) (drop count piece)) x y z a a b (record { replies = []; answers = h; sends = sends_none sent broken a }) k)

    pub last_skip : (p q w : List Made) (at piece : List ℕ) (count : ℕ) (x y : Incoming) (a b : Answers O G) (h : AnswersBytes n p q (at ++ take count piece) x y [])
        → SendsLast sent broken n q w (h.left ++ take (length piece - count) (drop count piece)) y a b → SendsLast sent broken n p w (at ++ piece) x a b
    last_skip p q w at piece count x y a b h k =
        subst (λ (bytes : List ℕ). SendsLast sent broken n p w bytes x a b) (append_assoc at (take count piece) (take (length piece - count) (drop count piece)) ∙ ap (λ (r : List ℕ). at ++ r) (sym (rest_split count piece)))
        (served_last p q w (at ++ take count piece) (take (length piece - count) (drop count piece)) x y a a b (record { replies = []; answers = h; sends = sends_none sent broken a }) k)

    pub over_skip : (p q w : List Made) (at piece : List ℕ) (count : ℕ) (x y : Incoming) (a : Answers O G) (h : AnswersBytes n p q (at ++ take count piece) x y []) → AnswersLast n q w h.left y []
        → SendsLast sent broken n p w (at ++ piece) x a a
    over_skip p q w at piece count x y a h k =
        last_skip p q w at piece count x y a a h (served_more q w h.left (take (length piece - count) (drop count piece)) y a a (served_over q w h.left y a k))

    pub all_skipped : (p q : List Made) (at piece : List ℕ) (count : ℕ) (x y : Incoming) (a : Answers O G) → AnswersBytes n p q (at ++ take count piece) x y [] → length piece ≤ count → SendsAnswers sent broken n p q (at ++ piece) x y a a
    all_skipped p q at piece count x y a h le =
        record { replies = []; answers = subst (λ (r : List ℕ). AnswersBytes n p q (at ++ r) x y []) (take_all count piece le) h; sends = sends_none sent broken a }

    -- ---- a reader

    pub stream_answered : (p q : List Made) (before after : Option (List ℕ)) (x y : Incoming) (a b : Answers O G) → x.skips ≡ false → TakesPart sent broken n p q before after [] x y a b → IsStreamAnswered sent broken n p q before after a b
    stream_answered p q before after x y a b none t =
        let k = t.served.answers in
        let e = all_given t.part k.left k.given k.goes (at_front k.left y.place k.is_in.at) in
        record {
          bytes = t.part;
          read = t.read;
          said = k.said;
          each = subst (λ (ps : List (List ℕ)). AreAnswered n p ps k.said q) (sym e.0) k.each;
          skips = y.skips;
          inside = λ s f. no_length k.left (sym e.1 ∙ f) (bytes_at k.left y.place k.is_in.at (k.is_in.inside s));
          sends = subst (λ (rs : List (Option Reply)). Sends sent broken a b (reply_frames rs)) (ap (λ s. early s ++ t.served.replies) (sym none) ∙ k.same) t.served.sends;
        }

    pub stream_stopped : (p q : List Made) (before after : Option (List ℕ)) (x : Incoming) (a b : Answers O G) → x.skips ≡ false → TakesLast sent broken n p q before after [] x a b → IsStreamStopped sent broken n p q before after a b
    stream_stopped p q before after x a b none t =
        let k = t.served.answers in
        let whole : t.part ++ [] ≡ t.part = append-nil t.part in
        record {
          bytes = t.part;
          read = t.read;
          said = k.said;
          each = subst (λ (ps : List (List ℕ)). AreAnswered n p ps k.said q) (sym (k.stops.found []) ∙ ap payloads whole) k.each;
          over = (k.over, is_over_next (length_next (rest_of t.part)) k.over (ap (λ (r : List ℕ). length_next (rest_of r)) (sym whole) ∙ k.stops.next []) k.stops.over);
          last = k.last;
          is_last = k.is_last;
          sends = subst (λ (rs : List (Option Reply)). Sends sent broken a b (reply_frames rs)) (ap (λ s. early s ++ t.served.replies) (sym none) ∙ k.same) t.served.sends;
        }

    pub nothing_answered : (w : List Made) (before : Option (List ℕ)) (a : Answers O G) → IsStreamAnswered sent broken n w w before before a a
    nothing_answered w before a = record {
      bytes = [];
      read = Consumes-none before;
      said = [];
      each = subst (λ (ps : List (List ℕ)). AreAnswered n w ps [] w) (sym empty_front.0) (prefix_self w);
      skips = false;
      inside = λ e. absurd (false_is_true e);
      sends = sends_none sent broken a;
    }

    pub takes_none : (p q : List Made) → IsPrefix p q → (before after : Option (List ℕ)) (at : List ℕ) (x : Incoming) (a : Answers O G) → Consumes before after [] → IsIn at x → TakesPart sent broken n p q before after at x x a a
    takes_none p q b before after at x a h i = record { part = []; read = h; served = nothing_sent p q b at x a i }

    pub takes_on : (p q w : List Made) (before mid after : Option (List ℕ)) (at : List ℕ) (x y z : Incoming) (a b c : Answers O G) (h : TakesPart sent broken n p q before mid at x y a b) → TakesPart sent broken n q w mid after h.served.answers.left y z b c
        → TakesPart sent broken n p w before after at x z a c
    takes_on p q w before mid after at x y z a b c h k = record {
      part = h.part ++ k.part;
      read = Consumes-then before mid after h.part k.part (h.part ++ k.part) h.read k.read refl;
      served = subst (λ (bytes : List ℕ). SendsAnswers sent broken n p w bytes x z a c) (append_assoc at h.part k.part) (served_on p q w (at ++ h.part) k.part x y z a b c h.served k.served);
    }

    pub takes_last : (p q w : List Made) (before mid after : Option (List ℕ)) (at : List ℕ) (x y : Incoming) (a b c : Answers O G) (h : TakesPart sent broken n p q before mid at x y a b) → TakesLast sent broken n q w mid after h.served.answers.left y b c
        → TakesLast sent broken n p w before after at x a c
    takes_last p q w before mid after at x y a b c h k = record {
      part = h.part ++ k.part;
      read = Consumes-then before mid after h.part k.part (h.part ++ k.part) h.read k.read refl;
      served = subst (λ (bytes : List ℕ). SendsLast sent broken n p w bytes x a c) (append_assoc at h.part k.part) (served_last p q w (at ++ h.part) k.part x y a b c h.served k.served);
    }

pub keeps_consumes : (before after : Option (List ℕ)) → Keeps before after → Consumes before after []
keeps_consumes None after h = tt
keeps_consumes (Some xs) None h = absurd h
keeps_consumes (Some xs) (Some ys) h = sym h

pub read_none : {E : Type 0} (before after : Option (List ℕ)) (r : Result ℕ E) (n : ℕ) (buf : List ℕ) → r ≡ Ok n → n ≡ 0 → ReadConsumes before after r buf → Consumes before after []
read_none before after (Ok m) n buf e z h = let none : m ≡ 0 = cc in subst (λ (k : ℕ). Consumes before after (take k buf)) none h.0
read_none before after (Err x) n buf e z h = absurd cc
