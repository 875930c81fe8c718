-- Frames that are written one after another.
use Rattle.std.proofs.Common.{◌≡◌, ℕ, suc, ◌+◌, ◌^◌, ◌-◌, ◌<◌, min, List, [], ◌∷◌, ◌++◌, length, take, drop, get_or, add-one, Option, Some, refl, sym, ap, ◌∙◌, append_assoc, arith, subst}
use Rattle.std.specs.Prelude.{◌↔◌, Result, Ok, Err, IfErr, OnErr}
use Rattle.std.specs.Io.KnownBytes.{Appends}
use Rattle.std.proofs.lemmas.List.{append-nil, take_min, take-append-le}
use Rattle.std.proofs.Math.Seq.{drop-cons, take-append-add}
use Rattle.tab_term.specs.Canon.{canon}
use Rattle.tab_term.specs.Data.{PlainTerm, PlainTerms, one_more}
use Rattle.tab_lists.specs.declared.events.EventTerm.{EventTerm}
use Rattle.tab_lists.specs.EventTerms.{event_term, event_terms}
use Rattle.tab_etf.specs.Frames.{frame}
use Rattle.tab_etf.specs.Writing.{IsUnwritten}
use Rattle.tab_etf.specs.declared.encoding.EncodeFault.{EncodeFault}
use Rattle.tab_etf.specs.declared.encoding.EncodeFault.TheVariants as encode
use Rattle.tab_etf.specs.declared.framing.FrameFault.{FrameFault}
use Rattle.tab_etf.specs.declared.framing.FrameFault.TheVariants.{FrameTooLong, CutOff, Device, NoMemory}
use Rattle.tab_etf.proofs.KnownBytesLemmas.{Appends-none, Appends-then}
use Rattle.tab_proto.specs.Events.{event_frames, IsUnadded, IsUnsent}

-- the first of the events that are left
pub events_first : (es : List EventTerm) (i : ℕ) (e : EventTerm) → i < length es → e ≡ get_or es i e → event_terms (drop i es) ≡ one_more (event_term e) (event_terms (drop (i + 1) es))
events_first es i e lt is =
    ap event_terms (drop-cons es i e lt ∙ ap (λ x. x ∷ drop (suc i) es) (sym is)) ∙ ap (λ n. one_more (event_term e) (event_terms (drop n es))) (sym (add-one i))

-- frames of which the first are written, and the rest comes next
pub record Sending (all rest : List ℕ) (old new : Option (List ℕ)) (faults faults' : ℕ) : Type 0 where
  pub before : List ℕ
  pub whole : all ≡ before ++ rest
  pub text : Appends old new before
  pub same : faults' ≡ faults

pub sending_next : (all next rest : List ℕ) (old mid new : Option (List ℕ)) (f g h : ℕ)
    → Sending all (next ++ rest) old mid f g → Appends mid new next → h ≡ g → Sending all rest old new f h
sending_next all next rest old mid new f g h s p e = record {
  before = s.before ++ next;
  whole = s.whole ∙ sym (append_assoc s.before next rest);
  text = Appends-then old mid new s.before next _ s.text p refl;
  same = e ∙ s.same;
}

pub sending_event : (all : List ℕ) (e : PlainTerm) (ts es : PlainTerms) (old mid new : Option (List ℕ)) (f g h : ℕ) → ts ≡ one_more e es
    → Sending all (event_frames ts) old mid f g → Appends mid new (frame (131 ∷ canon e)) → h ≡ g → Sending all (event_frames es) old new f h
sending_event all e ts es old mid new f g h t s p k =
    sending_next all (frame (131 ∷ canon e)) (event_frames es) old mid new f g h (subst (λ (x : PlainTerms). Sending all (event_frames x) old mid f g) t s) p k

-- the beginning of the frames that ends in one of them
pub beginning_of : (all before next rest : List ℕ) (n : ℕ) → all ≡ before ++ (next ++ rest) → (m : ℕ) × (before ++ take n next ≡ take m all)
beginning_of all before next rest n e =
    let k : ℕ = min n (length next) in
    let within : take k (next ++ rest) ≡ take n next = take-append-le k next rest (omega arith) ∙ take_min n next in
    (length before + k, ap (λ (x : List ℕ). before ++ x) (sym within) ∙ sym (take-append-add before (next ++ rest) k) ∙ ap (take (length before + k)) (sym e))

pub unsent_after : (fault : FrameFault) (all payload rest : List ℕ) (old mid new : Option (List ℕ)) (f g h : ℕ)
    → Sending all (frame payload ++ rest) old mid f g → IsUnwritten fault payload mid new g h → IsUnsent fault all old new f h
unsent_after (FrameTooLong n) all payload rest old mid new f g h s p =
    ((s.before, payload, rest, s.whole, p.0, subst (λ (x : Option (List ℕ)). Appends old x s.before) (sym p.2) s.text), p.1, p.3 ∙ s.same)
unsent_after CutOff all payload rest old mid new f g h s p = absurd p
unsent_after Device all payload rest old mid new f g h s p =
    let m = beginning_of all s.before (frame payload) rest p.1.0 s.whole in
    ((m.0, Appends-then old mid new s.before _ _ s.text p.1.1 m.1), p.2 ∙ ap (λ (x : ℕ). min (x + 1) (2 ^ 64 - 1)) s.same)
unsent_after NoMemory all payload rest old mid new f g h s p = absurd p

pub unsent_whole : (fault : FrameFault) (payload : List ℕ) (old new : Option (List ℕ)) (f g : ℕ) → IsUnwritten fault payload old new f g → IsUnsent fault (frame payload) old new f g
unsent_whole fault payload old new f g p =
    let s : Sending (frame payload) (frame payload ++ []) old old f f =
    record { before = []; whole = sym (append-nil (frame payload)); text = Appends-none old; same = refl }
    in unsent_after fault (frame payload) payload [] old old new f f g s p

-- the frame of a term is not written whole
pub unsent_term : {A : Type 0} (r : Result A FrameFault) (t u : PlainTerm) (old new : Option (List ℕ)) (f g : ℕ)
    → t ≡ u → IfErr r (λ e. IsUnwritten e (131 ∷ canon t) old new f g) → IfErr r (λ e. IsUnsent e (frame (131 ∷ canon u)) old new f g)
unsent_term (Ok a) t u old new f g k p = tt
unsent_term (Err e) t u old new f g k p =
    subst (λ (x : PlainTerm). IsUnsent e (frame (131 ∷ canon x)) old new f g) k (unsent_whole e (131 ∷ canon t) old new f g p)

-- an event's frame is not written whole
pub unsent_event : {A : Type 0} (r : Result A FrameFault) (fault : FrameFault) (all : List ℕ) (e : PlainTerm) (ts es : PlainTerms) (old mid new : Option (List ℕ)) (f g h : ℕ)
    → r ≡ Err fault → ts ≡ one_more e es → Sending all (event_frames ts) old mid f g → IsUnwritten fault (131 ∷ canon e) mid new g h
    → IfErr r (λ x. IsUnsent x all old new f h)
unsent_event {A = A} r fault all e ts es old mid new f g h k t s p =
    let next = subst (λ (x : PlainTerms). Sending all (event_frames x) old mid f g) t s in
    subst (λ (x : Result A FrameFault). IfErr x (λ y. IsUnsent y all old new f h)) (sym k) (unsent_after fault all (131 ∷ canon e) (event_frames es) old mid new f g h next p)

-- ---- frames that are added to bytes

pub unadded_after : (fault : EncodeFault) (all payload rest old mid new : List ℕ)
    → Sending all (frame payload ++ rest) (Some old) (Some mid) 0 0 → (fault ≡ encode.TooLong → 4294967295 < length payload) → new ≡ mid → IsUnadded fault all old new
unadded_after encode.TooLong all payload rest old mid new s long same = (s.before, payload, rest, s.whole, long refl, same ∙ s.text)
unadded_after encode.NoMemory all payload rest old mid new s long same = (s.before, payload, rest, s.whole, same ∙ s.text)

-- the frame of a term is not added
pub unadded_term : {A : Type 0} (r : Result A EncodeFault) (t u : PlainTerm) (old new : List ℕ)
    → t ≡ u → ((r ≡ Err encode.TooLong) ↔ (4294967295 < length (131 ∷ canon t))) → OnErr r (new ≡ old) → IfErr r (λ e. IsUnadded e (frame (131 ∷ canon u)) old new)
unadded_term (Ok a) t u old new k long same = tt
unadded_term (Err e) t u old new k long same =
    let payload : List ℕ = 131 ∷ canon t in
    let s : Sending (frame payload) (frame payload ++ []) (Some old) (Some old) 0 0 =
    record { before = []; whole = sym (append-nil (frame payload)); text = Appends-none (Some old); same = refl } in
    let too_long : e ≡ encode.TooLong → 4294967295 < length payload = λ is. long.0 (ap (λ (x : EncodeFault). Err x) is) in
    subst (λ (x : PlainTerm). IsUnadded e (frame (131 ∷ canon x)) old new) k (unadded_after e (frame payload) payload [] old old new s too_long same)

-- an event's frame is not added
pub unadded_event : {A B : Type 0} (r : Result A EncodeFault) (q : Result B EncodeFault) (fault : EncodeFault) (all : List ℕ) (e : PlainTerm) (ts es : PlainTerms) (old mid new : List ℕ)
    → r ≡ Err fault → q ≡ Err fault → ts ≡ one_more e es → Sending all (event_frames ts) (Some old) (Some mid) 0 0
    → ((q ≡ Err encode.TooLong) ↔ (4294967295 < length (131 ∷ canon e))) → new ≡ mid → IfErr r (λ x. IsUnadded x all old new)
unadded_event {A = A} r q fault all e ts es old mid new k told t s long same =
    let next = subst (λ (x : PlainTerms). Sending all (event_frames x) (Some old) (Some mid) 0 0) t s in
    let too_long : fault ≡ encode.TooLong → 4294967295 < length (131 ∷ canon e) = λ is. long.0 (told ∙ ap (λ (x : EncodeFault). Err x) is) in
    subst (λ (x : Result A EncodeFault). IfErr x (λ y. IsUnadded y all old new)) (sym k) (unadded_after fault all (131 ∷ canon e) (event_frames es) old mid new next too_long same)
