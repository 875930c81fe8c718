-- Sends, one after another.
use Rattle.std.proofs.Common.{arith, ◌≡◌, ℕ, ◌+◌, ◌-◌, ◌≤◌, List, [], ◌++◌, take, drop, length, Option, Some, None, refl, sym, ap, ◌∙◌, append_assoc, Result, Ok, Err}
use Rattle.std.specs.Prelude.{OnOk, OnErr}
use Rattle.std.specs.Io.KnownBytes.{Appends, Keeps, append_known}
use Rattle.std.proofs.lemmas.List.{length-drop, take_all, take-append-drop, take-append-le, drop-drop}
use Rattle.std.proofs.Math.Seq.{drop-append-le}
use Rattle.tab_etf.proofs.KnownBytesLemmas.{Appends-none, Appends-keeps, Appends-then}
use Rattle.tab_sink.specs.Sends.{Sends}

pub sends_before : (a b : Option (List ℕ)) (x y zs : List ℕ) → Sends a x b y → Sends a (x ++ zs) b (y ++ zs)
sends_before a b x y zs s = (s.0, s.1, ap (λ (r : List ℕ). r ++ zs) s.2 ∙ append_assoc s.0 y zs)

pub sends_then : (a b c : Option (List ℕ)) (x y z : List ℕ) → Sends a x b y → Sends b y c z → Sends a x c z
sends_then a b c x y z s t =
    (s.0 ++ t.0, Appends-then a b c s.0 t.0 (s.0 ++ t.0) s.1 t.1 refl, s.2 ∙ ap (λ (r : List ℕ). s.0 ++ r) t.2 ∙ sym (append_assoc s.0 t.0 z))

-- all of the rest, and then of the frames
pub sends_both : (a b c : Option (List ℕ)) (rest kept frames left : List ℕ) → Sends a rest b kept → kept ≡ [] → Sends b frames c left → Sends a (rest ++ frames) c left
sends_both a b c rest kept frames left s e t =
    let first : Sends a (rest ++ frames) b frames = (s.0, s.1, ap (λ (r : List ℕ). r ++ frames) (s.2 ∙ ap (λ (k : List ℕ). s.0 ++ k) e) ∙ append_assoc s.0 [] frames) in
    sends_then a b c (rest ++ frames) frames left first t

pub sends_none : (a b : Option (List ℕ)) (x : List ℕ) → Keeps a b → Sends a x b x
sends_none a b x k = ([], Appends-keeps a a b [] (Appends-none a) k, refl)

-- a part of what is left from place i on
pub sends_part : (a b : Option (List ℕ)) (xs : List ℕ) (i n : ℕ) → i ≤ length xs → Appends a b (take n (take (length xs - i) (drop i xs))) → Sends a (drop i xs) b (drop (i + n) xs)
sends_part a b xs i n le put =
    let bytes = take (length xs - i) (drop i xs) in
    let whole : bytes ≡ drop i xs = take_all (length xs - i) (drop i xs) (omega (arith, length-drop i xs)) in
    let rest : drop n (drop i xs) ≡ drop (i + n) xs = drop-drop n i xs in
    (take n bytes, put, sym (take-append-drop n (drop i xs)) ∙ ap (λ (r : List ℕ). take n r ++ drop n (drop i xs)) (sym whole) ∙ ap (λ (r : List ℕ). take n bytes ++ r) rest)

-- what was sent of the rest is a beginning of it and of what follows it
pub sent_begins : (rest p left frames : List ℕ) → rest ≡ p ++ left → take (length p) (rest ++ frames) ≡ p
sent_begins rest p left frames e =
    ap (λ (r : List ℕ). take (length p) (r ++ frames)) e ∙ ap (λ (r : List ℕ). take (length p) r) (append_assoc p left frames)
    ∙ take-append-le (length p) p (left ++ frames) (omega arith) ∙ take_all (length p) p (omega arith)

pub drop_longer : (n : ℕ) (xs ys : List ℕ) → n ≤ length xs → drop n (xs ++ ys) ≡ drop n xs ++ ys
drop_longer n xs ys le = drop-append-le n xs ys le

-- ---- the bytes that are written, and then those that remain

pub given_more : (a : Option (List ℕ)) (rest more bytes : List ℕ) → more ≡ rest ++ bytes → Appends (append_known a rest) (append_known a more) bytes
given_more None rest more bytes e = tt
given_more (Some x) rest more bytes e = ap (λ (r : List ℕ). x ++ r) e ∙ sym (append_assoc x rest bytes)

pub on_ok_both : {A E : Type 0} {P N Q : Type 0} (r : Result A E) → OnOk r P → OnOk r N → (P → N → Q) → OnOk r Q
on_ok_both (Ok x) p n f = f p n
on_ok_both (Err e) p n f = tt

pub on_err_then : {A E : Type 0} {P Q : Type 0} (r : Result A E) → OnErr r P → (P → Q) → OnErr r Q
on_err_then (Ok x) p f = tt
on_err_then (Err e) p f = f p

pub on_err_any : {A E : Type 0} {P : Type 0} (r : Result A E) → P → OnErr r P
on_err_any (Ok x) p = tt
on_err_any (Err e) p = p
