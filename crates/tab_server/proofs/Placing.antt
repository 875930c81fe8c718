-- The position of a stream in its current frame.
use Rattle.std.proofs.Common.{◌≡◌, ◌≢◌, inl, inr, ℕ, ◌+◌, ◌-◌, ◌<◌, ◌≤◌, List, [], ◌∷◌, ◌++◌, length, take, drop, Option, Some, None, true, false, eqb, refl, sym, ap, subst, ◌∙◌, append_assoc, arith, length-append, length-drop}
use Rattle.std.specs.Prelude.{set}
use Rattle.std.specs.Int.{w32, from_be_bytes}
use Rattle.std.proofs.lemmas.Bool.{eqb-true, le-ltb}
use Rattle.std.proofs.lemmas.Bool.Decides.{eqb_tells}
use Rattle.std.proofs.lemmas.List.{take_all, drop_all, length-set, take_more_set, append-nil, take-append-drop}
use Rattle.tab_etf.specs.Frames.{limit, length_next, IsOver}
use Rattle.tab_etf.specs.Streams.{front, payloads, rest_of, GoesOn}
use Rattle.tab_etf.proofs.Cuts.{length_next-more, front-whole, front-over, front_part, front_short, over_long, goes_none, goes_one}
use Rattle.tab_etf.proofs.KnownBytesLemmas.{take_further}
use Rattle.tab_server.specs.declared.place.Place.{Place}
use Rattle.tab_server.specs.declared.place.Place.TheVariants.{Length, Payload, Over}
use Rattle.tab_server.specs.Placed.{is_between, GoesPast, IsAt, IsFrame, IsPassed}

-- ---- a length

length_whole : (h : List ℕ) → length h ≡ 4 → length_next h ≡ Some (from_be_bytes w32 h)
unfolding length_next
length_whole h e = rw (le-ltb (length h) 4 (omega arith), take_all 4 h (omega arith)) refl

no_bytes : (h : List ℕ) → length h ≡ 4 → length (drop 4 h) ≡ 0
no_bytes h e = omega (arith, length-drop 4 h)

pub zero_frame : (h : List ℕ) → length h ≡ 4 → from_be_bytes w32 h ≡ 0 → IsFrame h []
zero_frame h e z more =
    let none : drop 4 h ≡ [] = drop_all 4 h (omega arith) in
    front-whole h more 0 (length_whole h e ∙ ap Some z) (omega arith) (omega arith) ∙ ap (λ (x : List ℕ). Some (take 0 x, drop 0 x ++ more)) none

pub over_at : (h : List ℕ) → length h ≡ 4 → limit < from_be_bytes w32 h → IsAt h Over
over_at h e lt = (from_be_bytes w32 h, rw (length_whole h e) (refl, lt))

pub payload_at : (h : List ℕ) → length h ≡ 4 → from_be_bytes w32 h ≤ limit → from_be_bytes w32 h ≢ 0 → IsAt h (Payload (from_be_bytes w32 h))
payload_at h e le some = (from_be_bytes w32 h, length_whole h e, le, omega arith, omega arith)

-- the last byte of a length
pub all_bytes : (head : List ℕ) (count i byte : ℕ) → length head ≡ 4 → count ≡ 3 → i ≡ count → take count head ++ byte ∷ [] ≡ set head i byte
all_bytes head count i byte e last same =
    ap (λ k. take k head ++ byte ∷ []) (sym same) ∙ sym (take_more_set head i byte (omega arith)) ∙ take_all (i + 1) (set head i byte) (omega (arith, length-set head i byte))

-- ---- a payload

pub payload_ends : (bytes part : List ℕ) (left : ℕ) → IsAt bytes (Payload left) → length part ≡ left → (p : List ℕ) × IsFrame (bytes ++ part) p
payload_ends bytes part left (n, e, le, f, some) k =
    let b : List ℕ = bytes ++ part in
    let next : length_next b ≡ Some n = (length_next-more bytes part n e).1 in
    let long : length (drop 4 b) ≡ n = omega (arith, length-drop 4 b, length-append bytes part) in
    let none : drop n (drop 4 b) ≡ [] = drop_all n (drop 4 b) (omega arith) in
    (take n (drop 4 b), λ more. front-whole b more n next le (omega arith) ∙ ap (λ (x : List ℕ). Some (take n (drop 4 b), x ++ more)) none)

pub payload_goes : (bytes part : List ℕ) (left now : ℕ) → IsAt bytes (Payload left) → length part < left → now + length part ≡ left → IsAt (bytes ++ part) (Payload now)
payload_goes bytes part left now (n, e, le, f, some) k same =
    (n, (length_next-more bytes part n e).1, le, omega (arith, length-append bytes part), omega arith)

over_more : (o : Option ℕ) (n : ℕ) → IsOver o n → (o ≡ Some n) × (limit < n)
over_more None n h = absurd h
over_more (Some m) n h = (ap Some h.0, omega arith)

pub over_goes : (bytes part : List ℕ) → IsAt bytes Over → IsAt (bytes ++ part) Over
over_goes bytes part (n, h) =
    let k = over_more (length_next bytes) n h in
    (n, rw ((length_next-more bytes part n k.0).1) (refl, k.1))

-- ---- no whole frame is there

short_length : (bytes : List ℕ) → length bytes < 4 → (x : ℕ) → length_next bytes ≡ Some x → ⊥
unfolding length_next
short_length bytes lt x e = let few = length_next-more bytes [] x e in omega (arith, few.0)

pub at_front : (bytes : List ℕ) (place : Place) → IsAt bytes place → front bytes ≡ None
at_front bytes (Length count head) (lt, e, k) = (front_part bytes (short_length bytes (omega arith))).0
at_front bytes (Payload left) (n, e, le, f, some) = (front_short bytes n e le (omega (arith, length-drop 4 bytes, (length_next-more bytes [] n e).0))).0
at_front bytes Over (n, h) = ap front (sym (append-nil bytes)) ∙ front-over bytes [] n h

false_ne_true : false ≡ true → ⊥
false_ne_true e = cc

pub some_bytes : (n : ℕ) → eqb n 0 ≡ false → 0 < n
some_bytes n e = elim (eqb_tells n 0) [ inl h ↦ absurd (false_ne_true (sym e ∙ h.0)) | inr h ↦ let k = h.1 in omega arith ]

-- between two frames no byte has come
pub nothing_at : (place : Place) → is_between place ≡ true → IsAt [] place
nothing_at (Length count head) e = let none : count ≡ 0 = eqb-true count 0 e in (omega arith, ap (λ n. take n head) (sym none), sym none)
nothing_at (Payload left) e = absurd (false_ne_true e)
nothing_at Over e = absurd (false_ne_true e)

some_next : (bytes : List ℕ) (n : ℕ) → length_next bytes ≡ Some n → 0 < length bytes
some_next bytes n e = let few = length_next-more bytes [] n e in omega (arith, few.0)

-- inside a frame some bytes have come
pub bytes_at : (bytes : List ℕ) (place : Place) → IsAt bytes place → is_between place ≡ false → 0 < length bytes
bytes_at bytes (Length count head) (lt, e, k) f = let some : 0 < count = some_bytes count f in omega arith
bytes_at bytes (Payload left) (n, e, le, f, some) k = some_next bytes n e
bytes_at bytes Over (n, h) k = let long : 4 ≤ length bytes = over_long bytes n h in omega arith

-- ---- some bytes, and then others

pub passes_on : (at piece : List ℕ) (new : Place) (count more : ℕ) → IsPassed ((at ++ take count piece) ++ take more (take (length piece - count) (drop count piece))) new → IsPassed (at ++ take (count + more) piece) new
passes_on at piece new count more h =
    subst (λ (b : List ℕ). IsPassed b new) (append_assoc at (take count piece) (take more (take (length piece - count) (drop count piece))) ∙ ap (λ (b : List ℕ). at ++ b) (take_further piece count more)) h

pub still_at : (bytes : List ℕ) (new : Place) → is_between new ≡ false → IsPassed bytes new → IsAt bytes new
still_at bytes new e (inl h) = h.0
still_at bytes new e (inr (p, f, k)) = absurd cc

pub goes_further : (past held piece rest : List ℕ) (done given : List (List ℕ)) → GoesOn past done held → GoesOn (held ++ piece) given rest → GoesOn (past ++ piece) (done ++ given) rest
goes_further past held piece rest done given g h = record {
  found = λ more. ap payloads (append_assoc past piece more) ∙ g.found (piece ++ more) ∙ ap (λ (x : List ℕ). done ++ payloads x) (sym (append_assoc held piece more)) ∙ ap (λ (x : List (List ℕ)). done ++ x) (h.found more) ∙ sym (append_assoc done given (payloads (rest ++ more)));
  ends = λ more. ap rest_of (append_assoc past piece more) ∙ g.ends (piece ++ more) ∙ ap rest_of (sym (append_assoc held piece more)) ∙ h.ends more;
}

-- a whole frame
pub frame_goes : (bytes p : List ℕ) → IsFrame bytes p → GoesOn bytes (p ∷ []) []
frame_goes bytes p h = goes_one bytes [] bytes p [] (goes_none bytes) h

pub passes_past : (bytes : List ℕ) (new : Place) → IsPassed bytes new → GoesPast bytes new
passes_past bytes new (inl h) = record { given = []; left = bytes; goes = goes_none bytes; at = h.0 }
passes_past bytes new (inr (p, f, k)) = record { given = p ∷ []; left = []; goes = frame_goes bytes p f; at = nothing_at new k }

pub past_none : (at : List ℕ) (place : Place) → IsAt at place → GoesPast (at ++ []) place
past_none at place h = record { given = []; left = at; goes = subst (λ (b : List ℕ). GoesOn b [] at) (sym (append-nil at)) (goes_none at); at = h }

pub past_on : (bytes part : List ℕ) (mid new : Place) (g : GoesPast bytes mid) → IsPassed (g.left ++ part) new → GoesPast (bytes ++ part) new
past_on bytes part mid new g h =
    let k = passes_past (g.left ++ part) new h in
    record { given = g.given ++ k.given; left = k.left; goes = goes_further bytes g.left part k.left g.given k.given g.goes k.goes; at = k.at }

pub rest_split : (n : ℕ) (rest : List ℕ) → rest ≡ take n rest ++ take (length rest - n) (drop n rest)
rest_split n rest =
    sym (ap (λ (b : List ℕ). take n rest ++ b) (take_all (length rest - n) (drop n rest) (omega (arith, length-drop n rest))) ∙ take-append-drop n rest)
