-- Bytes that a writer holds.
use Rattle.std.proofs.Common.{◌≡◌, ℕ, ◌+◌, ◌-◌, arith, ◌≤◌, List, [], ◌++◌, length, take, drop, Option, Some, None, Bool, false, refl, sym, ap, ◌∙◌, append_assoc}
use Rattle.std.specs.Io.KnownBytes.{Appends, Keeps, Consumes}
use Rattle.tab_etf.specs.Arrivals.{HasCome}
use Rattle.std.proofs.lemmas.List.{append-nil, take_all, length-drop, length-take, take-append-le, length-append}
use Rattle.std.proofs.Math.Seq.{take-add, take-append-add}

pub Appends-none : (a : Option (List ℕ)) → Appends a a []
Appends-none None = tt
Appends-none (Some xs) = sym (append-nil xs)

pub Appends-then : (a b c : Option (List ℕ)) (x y z : List ℕ) → Appends a b x → Appends b c y → x ++ y ≡ z → Appends a c z
Appends-then None b c x y z p q e = tt
Appends-then (Some xs) None c x y z p q e = absurd p
Appends-then (Some xs) (Some ys) None x y z p q e = absurd q
Appends-then (Some xs) (Some ys) (Some zs) x y z p q e = q ∙ ap (λ (r : List ℕ). r ++ y) p ∙ append_assoc xs x y ∙ ap (λ (r : List ℕ). xs ++ r) e

pub Appends-keeps : (a b c : Option (List ℕ)) (x : List ℕ) → Appends a b x → Keeps b c → Appends a c x
Appends-keeps None b c x p q = tt
Appends-keeps (Some xs) None c x p q = absurd p
Appends-keeps (Some xs) (Some ys) None x p q = absurd q
Appends-keeps (Some xs) (Some ys) (Some zs) x p q = q ∙ p

pub take_further : (bs : List ℕ) (i n : ℕ) → take i bs ++ take n (take (length bs - i) (drop i bs)) ≡ take (i + n) bs
take_further bs i n =
    let whole : take (length bs - i) (drop i bs) ≡ drop i bs = take_all (length bs - i) (drop i bs) (omega (arith, length-drop i bs)) in
    ap (λ (r : List ℕ). take i bs ++ take n r) whole ∙ sym (take-add i n bs)

-- ---- bytes that a reader has left

pub Consumes-none : (a : Option (List ℕ)) → Consumes a a []
Consumes-none None = tt
Consumes-none (Some xs) = refl

pub Consumes-then : (a b c : Option (List ℕ)) (x y z : List ℕ) → Consumes a b x → Consumes b c y → x ++ y ≡ z → Consumes a c z
Consumes-then None b c x y z p q e = tt
Consumes-then (Some xs) None c x y z p q e = absurd p
Consumes-then (Some xs) (Some ys) None x y z p q e = absurd q
Consumes-then (Some xs) (Some ys) (Some zs) x y z p q e = p ∙ ap (λ (r : List ℕ). x ++ r) q ∙ sym (append_assoc x y zs) ∙ ap (λ (r : List ℕ). r ++ zs) e

-- a buffer whose end was filled from place a on
pub fill_more : (xs ys post : List ℕ) (a n : ℕ) → a ≤ length xs → n ≤ length ys → take (a + n) (take a xs ++ (ys ++ post)) ≡ take a xs ++ take n ys
fill_more xs ys post a n h k =
    let len : length (take a xs) ≡ a = omega (arith, length-take a xs) in
    ap (λ i. take (i + n) (take a xs ++ (ys ++ post))) (sym len) ∙ take-append-add (take a xs) (ys ++ post) n ∙ ap (λ (r : List ℕ). take a xs ++ r) (take-append-le n ys post k)

pub fill_within : (xs ys post : List ℕ) (a n : ℕ) → a ≤ length xs → n ≤ length ys → a + n ≤ length (take a xs ++ (ys ++ post))
fill_within xs ys post a n h k = omega (arith, length-take a xs, length-append (take a xs) (ys ++ post), length-append ys post)

pub come_more : (a b c : Option (List ℕ)) (n m total : ℕ) (lost lost' : Bool) (kept kept' buf post : List ℕ) → HasCome a b n lost kept → Consumes b c (take m buf) → m ≤ length buf → total ≡ n + m
    → (lost' ≡ false → (lost ≡ false) × (kept' ≡ kept ++ take m (buf ++ post))) → HasCome a c total lost' kept'
come_more a b c n m total lost lost' kept kept' buf post h p le e k = record {
  got = h.got ++ take m buf;
  came = Consumes-then a b c h.got (take m buf) (h.got ++ take m buf) h.came p refl;
  many = omega (arith, length-append h.got (take m buf), length-take m buf, h.many);
  same = λ f. let r = k f in r.1 ∙ ap (λ (s : List ℕ). kept ++ s) (take-append-le m buf post le) ∙ ap (λ (s : List ℕ). s ++ take m buf) (h.same r.0);
}
