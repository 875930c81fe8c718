-- The loop over the reader.
use Rattle.std.proofs.Common.{◌≡◌, ◌≢◌, ℕ, ◌+◌, ◌<◌, ◌≤◌, ◌-◌, ◌^◌, List, [], ◌∷◌, ◌++◌, length, take, Option, Some, None, Result, Ok, Err, refl, sym, ap, subst, ◌∙◌, append_assoc, arith, length-append}
use Rattle.std.specs.Io.KnownBytes.{Appends, Consumes, IsAtEnd}
use Rattle.std.proofs.lemmas.List.{append-nil}
use Rattle.std.proofs.Common.{inl, inr, IfSome, IfErr, OnOk}
use Rattle.tab_etf.specs.Feeding.{Held}
use Rattle.tab_etf.specs.Feeding.{IsStopped}
use Rattle.tab_etf.specs.declared.framing.FrameFault.{FrameFault}
use Rattle.tab_etf.specs.declared.framing.FrameFault.TheVariants as faults
use Rattle.tab_etf.specs.Streams.{payloads, rest_of, GoesOn, Stops}
use Rattle.tab_session.specs.declared.answered.PayloadReply.{PayloadReply}
use Rattle.tab_model.specs.State.{State}
use Rattle.tab_session.specs.AnsweredPayloads.{AnsweredAll}
use Rattle.tab_session.specs.declared.ended.Ended.{Ended}
use Rattle.tab_session.specs.declared.ended.Ended.TheVariants.{Damaged, Device, TooLong, NoMemory}
use Rattle.tab_session.specs.Replays.{fresh, frames_of, IsRun, IsReplaying, Passed, WroteAll, WroteSome, WroteBeforePiece, BeginsTooLong, Served, Replayed, Advances}
use Rattle.tab_session.proofs.AnsweredAllLemmas.{total, ran_join, frames_join, beginning_after}
use Rattle.tab_etf.proofs.Cuts.{empty_front, goes_none}
use Rattle.tab_etf.proofs.KnownBytesLemmas.{Appends-none, Appends-then, Consumes-none}

-- what is left after a read
pub record Left (more : List ℕ) (left : Option (List ℕ)) (piece : List ℕ) : Type 0 where
  pub next : List ℕ
  pub has : left ≡ Some next
  pub parts : more ≡ piece ++ next

some_is : (a b : List ℕ) → Some a ≡ Some b → a ≡ b
some_is a b e = cc

consumed : (left : Option (List ℕ)) (more : List ℕ) (new : Option (List ℕ)) (piece : List ℕ) → left ≡ Some more → Consumes left new piece → Left more new piece
consumed None more new piece e h = absurd cc
consumed (Some xs) more None piece e h = absurd h
consumed (Some xs) more (Some ys) piece e h = record { next = ys; has = refl; parts = some_is more xs (sym e) ∙ h }

again : (held piece next more : List ℕ) → more ≡ piece ++ next → held ++ more ≡ (held ++ piece) ++ next
again held piece next more e = ap (λ (x : List ℕ). held ++ x) e ∙ sym (append_assoc held piece next)

-- ---- what was read

cut_further : (past held piece rest : List ℕ) (done given : List (List ℕ)) → GoesOn past done held → GoesOn (held ++ piece) given rest → GoesOn (past ++ piece) (done ++ given) rest
cut_further past held piece rest done given g h = record {
  found = λ more. ap payloads (append_assoc past piece more) ∙ g.found (piece ++ more) ∙ ap (λ (x : List ℕ). done ++ payloads x) (sym (append_assoc held piece more)) ∙ ap (λ (x : List (List ℕ)). done ++ x) (h.found more) ∙ sym (append_assoc done given (payloads (rest ++ more)));
  ends = λ more. ap rest_of (append_assoc past piece more) ∙ g.ends (piece ++ more) ∙ ap rest_of (sym (append_assoc held piece more)) ∙ h.ends more;
}

-- all payloads of what was read are done where what is held has none
all_done : (past held : List ℕ) (done : List (List ℕ)) → GoesOn past done held → payloads held ≡ [] → payloads past ≡ done
all_done past held done g none = ap payloads (sym (append-nil past)) ∙ g.found [] ∙ ap (λ (x : List ℕ). done ++ payloads x) (append-nil held) ∙ ap (λ (x : List (List ℕ)). done ++ x) none ∙ append-nil done

-- ---- the end

at_end : (left : Option (List ℕ)) (more : List ℕ) → left ≡ Some more → IsAtEnd left → more ≡ []
at_end None more e h = absurd cc
at_end (Some xs) more e h = some_is more xs (sym e) ∙ h

-- ---- errors

-- what comes after what was done begins with these
pub record Next (stream : List ℕ) (done given : List (List ℕ)) : Type 0 where
  pub others : List (List ℕ)
  pub found : payloads stream ≡ done ++ (given ++ others)

regroup : (a b c d : List PayloadReply) → a ++ ((b ++ c) ++ d) ≡ (a ++ b) ++ (c ++ d)
regroup a b c d = ap (λ (x : List PayloadReply). a ++ x) (append_assoc b c d) ∙ sym (append_assoc a b (c ++ d))

too_long_on : (rs us : List PayloadReply) → BeginsTooLong rs → BeginsTooLong (rs ++ us)
too_long_on [] us h = absurd h
too_long_on (r ∷ rs) us h = h

not_both : (o : Option ℕ) (n : ℕ) → o ≡ None → o ≡ Some n → ⊥
not_both None n e f = absurd cc
not_both (Some m) n e f = absurd cc

stopped_by : (n : ℕ) (was new : Held) (piece : List ℕ) → was.over ≡ None → IsStopped (faults.FrameTooLong n) was new piece → Stops (was.rest ++ piece) new.before n
stopped_by n was new piece e h = elim h [ inl p ↦ absurd (not_both was.over n e p.0) | inr p ↦ p.2 ]

pub stopped : (f : FrameFault) (n : ℕ) (was new : Held) (piece : List ℕ) → f ≡ faults.FrameTooLong n → was.over ≡ None → IsStopped f was new piece → Stops (was.rest ++ piece) new.before n
stopped f n was new piece k e h = stopped_by n was new piece e (subst (λ (x : FrameFault). IsStopped x was new piece) k h)

pub if_some_map : (o : Option (List ℕ)) (P Q : List ℕ → Type 0) → ((x : List ℕ) → o ≡ Some x → P x → Q x) → IfSome o P → IfSome o Q
if_some_map None P Q f h = tt
if_some_map (Some x) P Q f h = f x refl h

module _ (capacity : ℕ) where
  payloads_so_far : (stream : List ℕ) (left : Option (List ℕ)) (held : List ℕ) (i : ℕ) (now : State) (old new : Option (List ℕ))
      → (s : IsReplaying capacity stream left held i now old new) → payloads stream ≡ s.done ++ payloads (held ++ s.more)
  payloads_so_far stream left held i now old new s = ap payloads (sym s.parts) ∙ s.cut.found s.more

  rest_so_far : (stream : List ℕ) (left : Option (List ℕ)) (held : List ℕ) (i : ℕ) (now : State) (old new : Option (List ℕ))
      → (s : IsReplaying capacity stream left held i now old new) → rest_of stream ≡ rest_of (held ++ s.more)
  rest_so_far stream left held i now old new s = ap rest_of (sym s.parts) ∙ s.cut.ends s.more

  pub replaying_init : (stream : List ℕ) (old : Option (List ℕ)) → IsReplaying capacity stream (Some stream) [] 0 fresh old old
  replaying_init stream old = record {
    read = [];
    more = stream;
    parts = refl;
    has = refl;
    done = [];
    said = [];
    cut = goes_none [];
    goes = λ qs ss τ r. r;
    text = Appends-none old;
    count = omega arith;
  }

  pub replaying_on : (stream : List ℕ) (left new_left : Option (List ℕ)) (held piece rest : List ℕ) (i : ℕ) (now μ : State) (old mid new : Option (List ℕ)) (given : List (List ℕ))
      → IsReplaying capacity stream left held i now old mid → Consumes left new_left piece → 0 < length piece → GoesOn (held ++ piece) given rest → Passed capacity now μ given mid new
      → IsReplaying capacity stream new_left rest (i + 1) μ old new
  replaying_on stream left new_left held piece rest i now μ old mid new given s read some g p =
      let k = consumed left s.more new_left piece s.has read in
      record {
        read = s.read ++ piece;
        more = k.next;
        parts = sym (again s.read piece k.next s.more k.parts) ∙ s.parts;
        has = k.has;
        done = s.done ++ given;
        said = s.said ++ p.replies;
        cut = cut_further s.read held piece rest s.done given s.cut g;
        goes = λ qs ss τ r. rw (append_assoc s.done given qs, append_assoc s.said p.replies ss) (s.goes (given ++ qs) (p.replies ++ ss) τ (ran_join capacity now μ τ given qs p.replies ss p.ran r));
        text = Appends-then old mid new _ _ _ s.text p.text (sym (frames_join s.said p.replies));
        count = omega (arith, s.count, ap length k.parts, length-append piece k.next);
      }

  pub record AtEnd (stream : List ℕ) (held : List ℕ) (old new : Option (List ℕ)) : Type 0 where
    pub found : payloads held ≡ [] → WroteAll capacity fresh (payloads stream) old new
    pub ends : rest_of stream ≡ rest_of held

  pub replaying_end : (stream : List ℕ) (left new_left : Option (List ℕ)) (held : List ℕ) (i : ℕ) (now : State) (old new : Option (List ℕ))
      → IsReplaying capacity stream left held i now old new → Consumes left new_left [] → IsAtEnd new_left → AtEnd stream held old new
  replaying_end stream left new_left held i now old new s read end =
      let k = consumed left s.more new_left [] s.has read in
      let none : s.more ≡ [] = k.parts ∙ at_end new_left k.next k.has end in
      let whole : held ++ s.more ≡ held = ap (λ (x : List ℕ). held ++ x) none ∙ append-nil held in
      record {
        found = λ e. record {
          replies = s.said;
          said = record {
            last = now;
            ran = subst (λ (ps : List (List ℕ)). AnsweredAll capacity fresh ps s.said now) (ap (λ (x : List (List ℕ)). s.done ++ x) (sym e) ∙ ap (λ (x : List ℕ). s.done ++ payloads x) (sym whole) ∙ sym (payloads_so_far stream left held i now old new s))
                (subst (λ (rs : List PayloadReply). AnsweredAll capacity fresh (s.done ++ []) rs now) (append-nil s.said) (s.goes [] [] now refl));
          };
          text = s.text;
        };
        ends = rest_so_far stream left held i now old new s ∙ ap rest_of whole;
      }

  pub replaying_over : {n : ℕ} (stream : List ℕ) (left new_left : Option (List ℕ)) (held piece : List ℕ) (i : ℕ) (now μ : State) (old mid new : Option (List ℕ)) (given : List (List ℕ))
      → IsReplaying capacity stream left held i now old mid → Consumes left new_left piece → Stops (held ++ piece) given n → Passed capacity now μ given mid new
      → Replayed capacity stream new_left old new (Err Damaged)
  replaying_over stream left new_left held piece i now μ old mid new given s read g p =
      let k = consumed left s.more new_left piece s.has read in
      let whole = again held piece k.next s.more k.parts in (
        λ e. g.ends k.next (sym (rest_so_far stream left held i now old mid s ∙ ap rest_of whole) ∙ e),
        record {
          replies = s.said ++ p.replies;
          said = record {
            last = μ;
            ran = subst (λ (ps : List (List ℕ)). AnsweredAll capacity fresh ps (s.said ++ p.replies) μ) (ap (λ (x : List (List ℕ)). s.done ++ x) (sym (g.found k.next)) ∙ ap (λ (x : List ℕ). s.done ++ payloads x) (sym whole) ∙ sym (payloads_so_far stream left held i now old mid s))
                (s.goes given p.replies μ p.ran);
          };
          text = Appends-then old mid new _ _ _ s.text p.text (sym (frames_join s.said p.replies));
        },
      )

  pub next_going : (stream : List ℕ) (left new_left : Option (List ℕ)) (held piece rest : List ℕ) (i : ℕ) (now : State) (old new : Option (List ℕ)) (given : List (List ℕ))
      → (s : IsReplaying capacity stream left held i now old new) → Consumes left new_left piece → GoesOn (held ++ piece) given rest → Next stream s.done given
  next_going stream left new_left held piece rest i now old new given s read g =
      let k = consumed left s.more new_left piece s.has read in
      record { others = payloads (rest ++ k.next); found = payloads_so_far stream left held i now old new s ∙ ap (λ (x : List ℕ). s.done ++ payloads x) (again held piece k.next s.more k.parts) ∙ ap (λ (x : List (List ℕ)). s.done ++ x) (g.found k.next) }

  pub next_stopped : {n : ℕ} (stream : List ℕ) (left new_left : Option (List ℕ)) (held piece : List ℕ) (i : ℕ) (now : State) (old new : Option (List ℕ)) (given : List (List ℕ))
      → (s : IsReplaying capacity stream left held i now old new) → Consumes left new_left piece → Stops (held ++ piece) given n → Next stream s.done given
  next_stopped stream left new_left held piece i now old new given s read g =
      let k = consumed left s.more new_left piece s.has read in
      record { others = []; found = payloads_so_far stream left held i now old new s ∙ ap (λ (x : List ℕ). s.done ++ payloads x) (again held piece k.next s.more k.parts) ∙ ap (λ (x : List (List ℕ)). s.done ++ x) (g.found k.next ∙ sym (append-nil given)) }

  -- the run of what was served, after what was done and before all the rest
  said_on : (stream : List ℕ) (left : Option (List ℕ)) (held : List ℕ) (i : ℕ) (now : State) (old mid : Option (List ℕ)) (given : List (List ℕ)) (rs : List PayloadReply)
      → (s : IsReplaying capacity stream left held i now old mid) → Next stream s.done given → IsRun capacity now given rs → (us : List PayloadReply) × IsRun capacity fresh (payloads stream) (s.said ++ (rs ++ us))
  said_on stream left held i now old mid given rs s n q =
      let t = total capacity q.last n.others in
      (t.0, record { last = t.1.last; ran = subst (λ (ps : List (List ℕ)). AnsweredAll capacity fresh ps (s.said ++ (rs ++ t.0)) t.1.last) (sym n.found) (s.goes (given ++ n.others) (rs ++ t.0) t.1.last (ran_join capacity now q.last t.1.last given n.others rs t.0 q.ran t.1.ran)) })

  pub replaying_err : (stream : List ℕ) (left new_left : Option (List ℕ)) (held : List ℕ) (i : ℕ) (now μ : State) (old mid new : Option (List ℕ)) (given : List (List ℕ)) (e : Ended)
      → (s : IsReplaying capacity stream left held i now old mid) → Next stream s.done given → Served capacity now μ given mid new (Err e) → Replayed capacity stream new_left old new (Err e)
  replaying_err stream left new_left held i now μ old mid new given Damaged s n h = absurd h
  replaying_err stream left new_left held i now μ old mid new given Device s n h =
      let u = said_on stream left held i now old mid given h.replies s n h.said in
      let k = beginning_after (frames_of s.said) h.count (frames_of h.replies) (frames_of u.0) in
      let whole : frames_of s.said ++ (frames_of h.replies ++ frames_of u.0) ≡ frames_of (s.said ++ (h.replies ++ u.0)) =
      ap (λ (x : List ℕ). frames_of s.said ++ x) (sym (frames_join h.replies u.0)) ∙ sym (frames_join s.said (h.replies ++ u.0)) in
      record {
        replies = s.said ++ (h.replies ++ u.0);
        said = u.1;
        count = k.0;
        text = Appends-then old mid new _ _ _ s.text h.text (sym k.1 ∙ ap (take k.0) whole);
      }
  replaying_err stream left new_left held i now μ old mid new given TooLong s n h =
      let u = said_on stream left held i now old mid given (h.first ++ h.others) s n h.said in
      record {
        first = s.said ++ h.first;
        others = h.others ++ u.0;
        said = subst (λ (rs : List PayloadReply). IsRun capacity fresh (payloads stream) rs) (regroup s.said h.first h.others u.0) u.1;
        text = Appends-then old mid new _ _ _ s.text h.text (sym (frames_join s.said h.first));
        next = too_long_on h.others u.0 h.next;
      }
  replaying_err stream left new_left held i now μ old mid new given NoMemory s n h = absurd h

  -- a run over the whole stream from what was done
  said_all : (stream : List ℕ) (left : Option (List ℕ)) (held : List ℕ) (i : ℕ) (now : State) (old new : Option (List ℕ))
      → (s : IsReplaying capacity stream left held i now old new) → (us : List PayloadReply) × IsRun capacity fresh (payloads stream) (s.said ++ us)
  said_all stream left held i now old new s =
      let t = total capacity now (payloads (held ++ s.more)) in
      (t.0, record { last = t.1.last; ran = subst (λ (ps : List (List ℕ)). AnsweredAll capacity fresh ps (s.said ++ t.0) t.1.last) (sym (payloads_so_far stream left held i now old new s)) (s.goes (payloads (held ++ s.more)) t.0 t.1.last t.1.ran) })

  pub replaying_device : (stream : List ℕ) (left : Option (List ℕ)) (held : List ℕ) (i : ℕ) (now : State) (old new : Option (List ℕ))
      → IsReplaying capacity stream left held i now old new → WroteSome capacity fresh (payloads stream) old new
  replaying_device stream left held i now old new s =
      let u = said_all stream left held i now old new s in
      let k = beginning_after (frames_of s.said) 0 [] (frames_of u.0) in
      record {
        replies = s.said ++ u.0;
        said = u.1;
        count = k.0;
        text = subst (λ (x : List ℕ). Appends old new x) (sym (append-nil (frames_of s.said)) ∙ sym k.1 ∙ ap (take k.0) (sym (frames_join s.said u.0))) s.text;
      }

  pub replaying_no_memory : (stream : List ℕ) (left new_left : Option (List ℕ)) (held piece : List ℕ) (i : ℕ) (now : State) (old new : Option (List ℕ))
      → IsReplaying capacity stream left held i now old new → payloads held ≡ [] → Consumes left new_left piece → length piece ≤ 65536 → WroteBeforePiece capacity stream new_left old new
  replaying_no_memory stream left new_left held piece i now old new s none read short =
      let k = consumed left s.more new_left piece s.has read in
      let all : payloads s.read ≡ s.done ++ [] = all_done s.read held s.done s.cut none ∙ sym (append-nil s.done) in
      record {
        answered = s.read;
        piece = piece;
        more = k.next;
        parts = ap (λ (x : List ℕ). s.read ++ x) (sym k.parts) ∙ s.parts;
        unread = k.has;
        short = short;
        wrote = record {
          replies = s.said;
          said = record {
            last = now;
            ran = subst (λ (ps : List (List ℕ)). AnsweredAll capacity fresh ps s.said now) (sym all)
                (subst (λ (rs : List PayloadReply). AnsweredAll capacity fresh (s.done ++ []) rs now) (append-nil s.said) (s.goes [] [] now refl));
          };
          text = s.text;
        };
      }

  -- the rounds are never used up
  pub replaying_rounds : (stream : List ℕ) (left : Option (List ℕ)) (held : List ℕ) (i : ℕ) (now : State) (old new : Option (List ℕ))
      → IsReplaying capacity stream left held i now old new → length stream < i → ⊥
  replaying_rounds stream left held i now old new s lt = omega (arith, s.count)

  pub advance : (r : Result (Unit {0}) Ended) (stream : List ℕ) (left new_left : Option (List ℕ)) (held piece rest : List ℕ) (i : ℕ) (now μ : State) (old mid new : Option (List ℕ)) (given : List (List ℕ))
      → IsReplaying capacity stream left held i now old mid → Consumes left new_left piece → 0 < length piece → GoesOn (held ++ piece) given rest → Served capacity now μ given mid new r
      → Advances capacity r stream new_left rest (i + 1) μ old new
  advance (Ok u) stream left new_left held piece rest i now μ old mid new given s read some g p = replaying_on stream left new_left held piece rest i now μ old mid new given s read some g p
  advance (Err e) stream left new_left held piece rest i now μ old mid new given s read some g p =
      replaying_err stream left new_left held i now μ old mid new given e s (next_going stream left new_left held piece rest i now old mid given s read g) p

  pub ended_ok : (stream : List ℕ) (left : Option (List ℕ)) (held : List ℕ) (old new : Option (List ℕ)) → AtEnd stream held old new → payloads held ≡ [] → rest_of held ≡ [] → Replayed capacity stream left old new (Ok tt)
  ended_ok stream left held old new a e f = (a.ends ∙ f, a.found e)

  pub ended_cut : (stream : List ℕ) (left : Option (List ℕ)) (held : List ℕ) (old new : Option (List ℕ)) → AtEnd stream held old new → payloads held ≡ [] → rest_of held ≢ [] → Replayed capacity stream left old new (Err Damaged)
  ended_cut stream left held old new a e f = (λ k. f (sym a.ends ∙ k), a.found e)

  pub replaying_zero : (stream : List ℕ) (left new_left : Option (List ℕ)) (held : List ℕ) (i : ℕ) (now : State) (old new : Option (List ℕ)) (n : ℕ) (buf : List ℕ)
      → IsReplaying capacity stream left held i now old new → n ≡ 0 → Consumes left new_left (take n buf) → (n ≡ 0 → 0 < length buf → IsAtEnd new_left) → 0 < length buf → AtEnd stream held old new
  replaying_zero stream left new_left held i now old new n buf s e read end some =
      replaying_end stream left new_left held i now old new s (subst (λ (m : ℕ). Consumes left new_left (take m buf)) e read) (end e some)

  pub init_if : (o : Option (List ℕ)) (held : List ℕ) (now : State) (old : Option (List ℕ)) → held ≡ [] → now ≡ fresh → IfSome o (λ stream. IsReplaying capacity stream o held 0 now old old)
  init_if None held now old e f = tt
  init_if (Some stream) held now old e f = rw (e, f) (replaying_init stream old)

  pub device_if : (o left : Option (List ℕ)) (held : List ℕ) (i : ℕ) (now : State) (old new : Option (List ℕ))
      → IfSome o (λ stream. IsReplaying capacity stream left held i now old new) → IfSome o (λ stream. length stream < 2 ^ 64 - 1 → WroteSome capacity fresh (payloads stream) old new)
  device_if None left held i now old new s = tt
  device_if (Some stream) left held i now old new s = λ small. replaying_device stream left held i now old new s

  ok_if : (o left new_left : Option (List ℕ)) (held : List ℕ) (i : ℕ) (now : State) (old new : Option (List ℕ)) (n : ℕ) (buf : List ℕ)
      → IfSome o (λ stream. IsReplaying capacity stream left held i now old new) → n ≡ 0 → Consumes left new_left (take n buf) → (n ≡ 0 → 0 < length buf → IsAtEnd new_left) → 0 < length buf
      → payloads held ≡ [] → rest_of held ≡ [] → IfSome o (λ stream. length stream < 2 ^ 64 - 1 → Replayed capacity stream new_left old new (Ok tt))
  ok_if None left new_left held i now old new n buf s e read end some found ok = tt
  ok_if (Some stream) left new_left held i now old new n buf s e read end some found ok = λ small. ended_ok stream new_left held old new (replaying_zero stream left new_left held i now old new n buf s e read end some) found ok

  cut_if : (o left new_left : Option (List ℕ)) (held : List ℕ) (i : ℕ) (now : State) (old new : Option (List ℕ)) (n : ℕ) (buf : List ℕ)
      → IfSome o (λ stream. IsReplaying capacity stream left held i now old new) → n ≡ 0 → Consumes left new_left (take n buf) → (n ≡ 0 → 0 < length buf → IsAtEnd new_left) → 0 < length buf
      → payloads held ≡ [] → rest_of held ≢ [] → IfSome o (λ stream. length stream < 2 ^ 64 - 1 → Replayed capacity stream new_left old new (Err Damaged))
  cut_if None left new_left held i now old new n buf s e read end some found cut = tt
  cut_if (Some stream) left new_left held i now old new n buf s e read end some found cut = λ small. ended_cut stream new_left held old new (replaying_zero stream left new_left held i now old new n buf s e read end some) found cut

  pub end_if : (o left new_left : Option (List ℕ)) (held : List ℕ) (i : ℕ) (now : State) (old new : Option (List ℕ)) (n : ℕ) (buf : List ℕ) (r : Result (Unit {0}) Ended) (over : Option ℕ) → over ≡ None
      → IfSome o (λ stream. IsReplaying capacity stream left held i now old new) → n ≡ 0 → Consumes left new_left (take n buf) → (n ≡ 0 → 0 < length buf → IsAtEnd new_left) → 0 < length buf
      → (over ≡ None → payloads held ≡ []) → OnOk r (rest_of held ≡ []) → IfErr r (λ e. (e ≡ Damaged) × (over ≡ None → rest_of held ≢ [])) → IfSome o (λ stream. length stream < 2 ^ 64 - 1 → Replayed capacity stream new_left old new r)
  end_if o left new_left held i now old new n buf (Ok u) over going s e read end some found ok cut = ok_if o left new_left held i now old new n buf s e read end some (found going) ok
  end_if o left new_left held i now old new n buf (Err f) over going s e read end some found ok cut =
      subst (λ (x : Ended). IfSome o (λ stream. length stream < 2 ^ 64 - 1 → Replayed capacity stream new_left old new (Err x))) (sym cut.0) (cut_if o left new_left held i now old new n buf s e read end some (found going) (cut.1 going))

  pub piece_if : (o left new_left : Option (List ℕ)) (held : List ℕ) (i : ℕ) (now : State) (old mid new : Option (List ℕ)) (e : Ended)
      → IfSome o (λ stream. IsReplaying capacity stream left held i now old mid) → ((stream : List ℕ) → IsReplaying capacity stream left held i now old mid → Replayed capacity stream new_left old new (Err e))
      → IfSome o (λ stream. length stream < 2 ^ 64 - 1 → Replayed capacity stream new_left old new (Err e))
  piece_if None left new_left held i now old mid new e s f = tt
  piece_if (Some stream) left new_left held i now old mid new e s f = λ small. f stream s

  pub nothing_if : (o : Option (List ℕ)) (old : Option (List ℕ)) → IfSome o (λ stream. length stream < 2 ^ 64 - 1 → WroteBeforePiece capacity stream o old old)
  nothing_if None old = tt
  nothing_if (Some stream) old = λ small. replaying_no_memory stream (Some stream) (Some stream) [] [] 0 fresh old old (replaying_init stream old) empty_front.0 (Consumes-none (Some stream)) (omega arith)
