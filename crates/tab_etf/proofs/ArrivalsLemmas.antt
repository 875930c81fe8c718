-- A frame that comes from a reader.
use Rattle.std.proofs.Common.{◌≡◌, ℕ, ◌<◌, ◌≤◌, List, [], ◌++◌, length, take, drop, Option, Some, None, Ok, Err, true, false, ltb, refl, sym, ap, subst, ◌∙◌, append_assoc, arith, length-append}
use Rattle.std.specs.Int.{w32, from_be_bytes}
use Rattle.std.specs.Io.KnownBytes.{Consumes, IsAtEnd}
use Rattle.std.proofs.lemmas.Bool.{lt-ltb, le-ltb}
use Rattle.std.proofs.lemmas.List.{append-nil, take_all, length-take, drop_at, take_at}
use Rattle.tab_etf.specs.declared.framing.Frame.{Frame}
use Rattle.tab_etf.specs.declared.framing.FrameFault.{FrameFault}
use Rattle.tab_etf.specs.declared.framing.FrameFault.TheVariants.{FrameTooLong, CutOff, Device, NoMemory}
use Rattle.tab_etf.specs.Frames.{limit, length_next, IsOver, payload_of}
use Rattle.tab_etf.specs.Streams.{front}
use Rattle.tab_etf.specs.Arrivals.{FrameAt, ReadsFrame, ReadsPayload}
use Rattle.tab_etf.proofs.Cuts.{front_part, front_short, front-whole}

none_is_some : (n : ℕ) → None ≡ Some n → ⊥
none_is_some n e = absurd cc

-- ---- where the stream is known

module _ (xs ys : List ℕ) where
  known_nothing : xs ≡ ys → ys ≡ [] → FrameAt xs ys (Ok None)
  known_nothing e z = (e ∙ z, z)

  short_next : length xs < 4 → length_next xs ≡ None
  unfolding length_next
  short_next lt = let t : ltb (length xs) 4 ≡ true = lt-ltb _ _ lt in rw t refl

  known_short : (got : List ℕ) → 0 < length got → length got < 4 → xs ≡ got ++ ys → ys ≡ [] → FrameAt xs ys (Err CutOff)
  known_short got more lt e z =
      let len : length xs ≡ length got = ap length e ∙ length-append got ys ∙ omega (arith, ap length z) in
      let none : length_next xs ≡ None = short_next (omega arith) in
      let p = front_part xs (λ x s. none_is_some x (sym none ∙ s)) in
      (p.0, (λ w. absurd (omega (arith, ap length w))), p.1, z)

  module _ (head : List ℕ) (four : length head ≡ 4) (e : xs ≡ head ++ ys) where
    next : length_next xs ≡ Some (from_be_bytes w32 head)
    unfolding length_next
    next =
        let t : ltb (length xs) 4 ≡ false = le-ltb _ _ (omega (arith, ap length e, length-append head ys)) in
        let h : take 4 xs ≡ head = ap (take 4) e ∙ take_at head ys 4 four in
        rw (t, h) refl

    behind_head : drop 4 xs ≡ ys
    behind_head = ap (drop 4) e ∙ drop_at head ys 4 four

    known_long : limit < from_be_bytes w32 head → FrameAt xs ys (Err (FrameTooLong (from_be_bytes w32 head)))
    known_long lt = (subst (λ (o : Option ℕ). IsOver o (from_be_bytes w32 head)) (sym next) (refl, lt), sym behind_head)

    module _ (zs payload : List ℕ) (small : from_be_bytes w32 head ≤ limit) (f : ys ≡ payload ++ zs) where
      pub known_front : length payload ≡ from_be_bytes w32 head → front xs ≡ Some (payload, zs)
      known_front len =
          let n = from_be_bytes w32 head in
          let rest : drop 4 xs ≡ payload ++ zs = behind_head ∙ f in
          let w : front (xs ++ []) ≡ Some (take n (drop 4 xs), drop n (drop 4 xs) ++ []) = front-whole xs [] n next small (omega (arith, ap length rest, length-append payload zs)) in
          ap front (sym (append-nil xs)) ∙ w ∙ ap (λ (r : List ℕ). Some (take n r, drop n r ++ [])) rest
          ∙ ap (λ (p : List ℕ). Some (p, drop n (payload ++ zs) ++ [])) (take_at payload zs n len) ∙ ap (λ (r : List ℕ). Some (payload, r)) (append-nil (drop n (payload ++ zs)) ∙ drop_at payload zs n len)

      known_cut : length payload < from_be_bytes w32 head → zs ≡ [] → FrameAt xs zs (Err CutOff)
      known_cut lt z =
          let rest : length (drop 4 xs) < from_be_bytes w32 head = omega (arith, ap length behind_head, ap length f, length-append payload zs, ap length z, lt) in
          let p = front_short xs (from_be_bytes w32 head) next small rest in
          (p.0, (λ w. absurd (omega (arith, ap length w, ap length e, length-append head ys))), p.1, z)

-- ---- where it may be unknown

pub frame_short : (a b : Option (List ℕ)) (head : List ℕ) (n : ℕ) → Consumes a b (take n head) → length head ≡ 4 → 0 < n → n < 4 → IsAtEnd b → ReadsFrame a b (Err CutOff)
frame_short None b head n p four more lt z = tt
frame_short (Some xs) None head n p four more lt z = absurd p
frame_short (Some xs) (Some ys) head n p four more lt z = known_short xs ys (take n head) (omega (arith, length-take n head)) (omega (arith, length-take n head)) p z

pub frame_long : (a b : Option (List ℕ)) (head : List ℕ) (n count : ℕ) → Consumes a b (take n head) → length head ≡ 4 → 4 ≤ n → count ≡ from_be_bytes w32 head → limit < count → ReadsFrame a b (Err (FrameTooLong count))
frame_long None b head n count p four le e lt = tt
frame_long (Some xs) None head n count p four le e lt = absurd p
frame_long (Some xs) (Some ys) head n count p four le e lt =
    let all : take n head ≡ head = take_all n head (omega arith) in
    rw e (known_long xs ys head four (p ∙ ap (λ (r : List ℕ). r ++ ys) all) (omega (arith, e, lt)))

pub frame_ok : (a b c : Option (List ℕ)) (head : List ℕ) (n count : ℕ) (frame : Frame) → Consumes a b (take n head) → length head ≡ 4 → 4 ≤ n → count ≡ from_be_bytes w32 head → count ≤ limit
    → ReadsPayload b c count (Ok frame) → ReadsFrame a c (Ok (Some frame))
frame_ok None b c head n count frame p four le e small r = tt
frame_ok (Some xs) None c head n count frame p four le e small r = absurd p
frame_ok (Some xs) (Some ys) None head n count frame p four le e small r = absurd r.0
frame_ok (Some xs) (Some ys) (Some zs) head n count frame p four le e small r =
    let all : take n head ≡ head = take_all n head (omega arith) in
    known_front xs ys head four (p ∙ ap (λ (s : List ℕ). s ++ ys) all) zs (payload_of frame) (omega (arith, e, small)) r.0 (r.1 ∙ e)

known_err : (xs ys : List ℕ) (head : List ℕ) → length head ≡ 4 → xs ≡ head ++ ys → from_be_bytes w32 head ≤ limit → (zs : List ℕ) (fault : FrameFault) → ReadsPayload (Some ys) (Some zs) (from_be_bytes w32 head) (Err fault) → FrameAt xs zs (Err fault)
known_err xs ys head four e small zs (FrameTooLong m) r = absurd r
known_err xs ys head four e small zs CutOff r = known_cut xs ys head four e zs r.0.0 small r.0.1 r.0.2 r.1
known_err xs ys head four e small zs Device r = (head ++ r.0, e ∙ ap (λ (s : List ℕ). head ++ s) r.1 ∙ sym (append_assoc head r.0 zs))
known_err xs ys head four e small zs NoMemory r = (r.0, known_front xs ys head four e zs r.0 small r.1 r.2)

no_payload : (ys : List ℕ) (n : ℕ) (fault : FrameFault) → ReadsPayload (Some ys) None n (Err fault) → ⊥
no_payload ys n (FrameTooLong m) r = r
no_payload ys n CutOff r = r.0.1
no_payload ys n Device r = r.1
no_payload ys n NoMemory r = r.1

pub frame_err : (a b c : Option (List ℕ)) (head : List ℕ) (n count : ℕ) (fault : FrameFault) → Consumes a b (take n head) → length head ≡ 4 → 4 ≤ n → count ≡ from_be_bytes w32 head → count ≤ limit
    → ReadsPayload b c count (Err fault) → ReadsFrame a c (Err fault)
frame_err None b c head n count fault p four le e small r = tt
frame_err (Some xs) None c head n count fault p four le e small r = absurd p
frame_err (Some xs) (Some ys) None head n count fault p four le e small r = absurd (no_payload ys count fault r)
frame_err (Some xs) (Some ys) (Some zs) head n count fault p four le e small r =
    let all : take n head ≡ head = take_all n head (omega arith) in
    known_err xs ys head four (p ∙ ap (λ (s : List ℕ). s ++ ys) all) (omega (arith, e, small)) zs fault (subst (λ (k : ℕ). ReadsPayload (Some ys) (Some zs) k (Err fault)) e r)
