-- Writing one thing after another.
use Rattle.std.proofs.Common.{◌≡◌, ℕ, ◌+◌, ◌-◌, ◌^◌, ◌≤◌, min, Bool, true, false, List, [], ◌++◌, length, take, Option, Some, None, refl, sym, ap, subst, ◌∙◌, append_assoc, arith, length-append}
use Rattle.std.specs.Io.KnownBytes.{Appends}
use Rattle.std.proofs.lemmas.List.{append-nil, take-append-le, take_min, length-take}
use Rattle.std.proofs.Math.Seq.{take-append-add}
use Rattle.tab_etf.specs.declared.writer.Writer.{Writer}
use Rattle.tab_etf.specs.Writing.{Output, output, KnownGrows, Puts, Hands, Writes}

known_then : (a b c : Output) (x y z : Option (List ℕ)) (s t : List ℕ) → KnownGrows a x b y s → KnownGrows b y c z t → KnownGrows a x c z (s ++ t)
known_then a b c None y z s t p q = tt
known_then a b c (Some x) None z s t p q = absurd p
known_then a b c (Some x) (Some y) None s t p q = absurd q
known_then a b c (Some x) (Some y) (Some z) s t p q = record {
  longer = omega (arith, p.longer, q.longer);
  leads = λ more whole h. q.leads more whole (p.leads (t ++ more) whole (rw (← append_assoc s t more) h));
}

pub puts_then : (a b c : Output) (s t : List ℕ) → Puts a b s → Puts b c t → Puts a c (s ++ t)
puts_then a b c s t p q = record {
  faults = λ f h. q.faults f (p.faults f h);
  text = known_then a b c a.sent b.sent c.sent s t p.text q.text;
}

known_none : (a : Output) (x : Option (List ℕ)) → KnownGrows a x a x []
known_none a None = tt
known_none a (Some x) = record { longer = omega arith; leads = λ more whole h. h }

pub puts_none : (a : Output) → Puts a a []
puts_none a = record { faults = λ f h. h; text = known_none a a.sent }

-- ---- bytes are handed over

-- what was written of some bytes begins the whole
beginning : (xs ys all more whole : List ℕ) (n : ℕ) → ys ≡ xs ++ take n all → whole ≡ (xs ++ all) ++ more → (k : ℕ) × (ys ≡ take k whole)
beginning xs ys all more whole n h e =
    let m : ℕ = min n (length all) in
    let short : take n all ≡ take m all = sym (take_min n all) in
    let one : take (length xs + m) (xs ++ all) ≡ xs ++ take m all = take-append-add xs all m in
    let two : take (length xs + m) ((xs ++ all) ++ more) ≡ take (length xs + m) (xs ++ all) = take-append-le (length xs + m) (xs ++ all) more (omega (arith, length-append xs all)) in
    (length xs + m, h ∙ ap (λ (r : List ℕ). xs ++ r) short ∙ sym one ∙ sym two ∙ ap (take (length xs + m)) (sym e))

broken_known : (faults : ℕ) (sent known : Option (List ℕ)) (kept kept' bytes : List ℕ) → KnownGrows (record { failed = true; faults = faults; sent = sent; kept = kept }) known (record { failed = true; faults = faults; sent = sent; kept = kept' }) known bytes
broken_known faults sent None kept kept' bytes = tt
broken_known faults sent (Some xs) kept kept' bytes = record { longer = omega arith; leads = λ more whole h. h }

pub hands_broken : (faults : ℕ) (sent : Option (List ℕ)) (all : List ℕ) → Hands true faults sent true faults sent all
hands_broken faults sent all kept bytes e = record { faults = λ f h. h; text = broken_known faults sent sent kept [] bytes }

sent_known : (a b : Output) (x y : Option (List ℕ)) (kept bytes : List ℕ) → a.failed ≡ false → b.failed ≡ false → a.kept ≡ kept → b.kept ≡ [] → Appends x y (kept ++ bytes) → KnownGrows a x b y bytes
sent_known a b None y kept bytes fa fb ka kb h = tt
sent_known a b (Some xs) None kept bytes fa fb ka kb h = absurd h
sent_known a b (Some xs) (Some ys) kept bytes fa fb ka kb h = record {
  longer = omega (arith, ap length h, length-append xs (kept ++ bytes));
  leads = λ more whole l.
      let l' : xs ++ (kept ++ (bytes ++ more)) ≡ whole = rw (fa, ka) at l in
      let e : ys ++ more ≡ whole = ap (λ (r : List ℕ). r ++ more) h ∙ append_assoc xs (kept ++ bytes) more ∙ ap (λ (r : List ℕ). xs ++ r) (append_assoc kept bytes more) ∙ l' in
      rw (fb, kb) e;
}

pub hands_sent : (faults faults' : ℕ) (sent sent' : Option (List ℕ)) (all : List ℕ) → faults' ≡ faults → Appends sent sent' all → Hands false faults sent false faults' sent' all
hands_sent faults faults' sent sent' all n h kept bytes e = record {
  faults = λ f g. n ∙ g;
  text = sent_known (record { failed = false; faults = faults; sent = sent; kept = kept }) (record { failed = false; faults = faults'; sent = sent'; kept = [] }) sent sent' kept bytes refl refl refl refl (rw e at h);
}

lost_known : (a b : Output) (x y : Option (List ℕ)) (kept bytes : List ℕ) (n : ℕ) → a.failed ≡ false → b.failed ≡ true → a.kept ≡ kept → Appends x y (take n (kept ++ bytes)) → KnownGrows a x b y bytes
lost_known a b None y kept bytes n fa fb ka h = tt
lost_known a b (Some xs) None kept bytes n fa fb ka h = absurd h
lost_known a b (Some xs) (Some ys) kept bytes n fa fb ka h = record {
  longer = omega (arith, ap length h, length-append xs (take n (kept ++ bytes)));
  leads = λ more whole l.
      let l' : xs ++ (kept ++ (bytes ++ more)) ≡ whole = rw (fa, ka) at l in
      let parts : whole ≡ (xs ++ (kept ++ bytes)) ++ more = sym l' ∙ ap (λ (r : List ℕ). xs ++ r) (sym (append_assoc kept bytes more)) ∙ sym (append_assoc xs (kept ++ bytes) more) in
      let found : (k : ℕ) × (ys ≡ take k whole) = beginning xs ys (kept ++ bytes) more whole n h parts in
      rw fb found;
}

pub hands_lost : (faults faults' : ℕ) (sent sent' : Option (List ℕ)) (all : List ℕ) (n : ℕ) → faults' ≡ min (faults + 1) (2 ^ 64 - 1) → Appends sent sent' (take n all) → Hands false faults sent true faults' sent' all
hands_lost faults faults' sent sent' all n rose h kept bytes e = record {
  faults = λ f g. rose ∙ ap (λ m. min (m + 1) (2 ^ 64 - 1)) g;
  text = lost_known (record { failed = false; faults = faults; sent = sent; kept = kept }) (record { failed = true; faults = faults'; sent = sent'; kept = [] }) sent sent' kept bytes n refl refl refl (rw e at h);
}

pub hands_out : (failed failed' : Bool) (faults faults' : ℕ) (sent sent' : Option (List ℕ)) (kept kept' all : List ℕ) → Hands failed faults sent failed' faults' sent' all → all ≡ kept → kept' ≡ []
    → Puts (record { failed = failed; faults = faults; sent = sent; kept = kept }) (record { failed = failed'; faults = faults'; sent = sent'; kept = kept' }) []
hands_out failed failed' faults faults' sent sent' kept kept' all h e n =
    subst (λ (k : List ℕ). Puts (record { failed = failed; faults = faults; sent = sent; kept = kept }) (record { failed = failed'; faults = faults'; sent = sent'; kept = k }) []) (sym n) (h kept [] (e ∙ sym (append-nil kept)))

pub puts_as : (a b : Output) (s t : List ℕ) → Puts a b s → s ≡ t → Puts a b t
puts_as a b s t p e = subst (λ (x : List ℕ). Puts a b x) e p

-- ---- all is handed over

known_done : (a b : Output) (x y : Option (List ℕ)) (s : List ℕ) → a.failed ≡ false → b.failed ≡ false → a.kept ≡ [] → b.kept ≡ [] → KnownGrows a x b y s → Appends x y s
known_done a b None y s fa fb ka kb h = tt
known_done a b (Some xs) None s fa fb ka kb h = absurd h
known_done a b (Some xs) (Some ys) s fa fb ka kb h =
    let l = h.leads [] (xs ++ s) in
    let l' = rw (fa, fb, ka, kb, append-nil s) at l in
    sym (append-nil ys) ∙ l' refl

pub puts_done : (a b : Output) (s : List ℕ) → a.failed ≡ false → b.failed ≡ false → a.kept ≡ [] → b.kept ≡ [] → Puts a b s → Appends a.sent b.sent s × (b.faults ≡ a.faults)
puts_done a b s fa fb ka kb p =
    let f = rw (fa, fb) at (p.faults a.faults) in
    (known_done a b a.sent b.sent s fa fb ka kb p.text, f refl)

known_cut : (a b : Output) (x y : Option (List ℕ)) (s : List ℕ) → a.failed ≡ false → b.failed ≡ true → a.kept ≡ [] → KnownGrows a x b y s → (n : ℕ) × Appends x y (take n s)
known_cut a b None y s fa fb ka h = (0, tt)
known_cut a b (Some xs) None s fa fb ka h = absurd h
known_cut a b (Some xs) (Some ys) s fa fb ka h =
    let l = h.leads [] (xs ++ s) in
    let l' = rw (fa, fb, ka, append-nil) at l in
    let p = l' refl in
    let n = p.0 in
    let enough : length xs ≤ n = omega (arith, h.longer, ap length p.1, length-take n (xs ++ s)) in
    let m : n ≡ length xs + (n - length xs) = omega arith in
    (n - length xs, p.1 ∙ ap (λ k. take k (xs ++ s)) m ∙ take-append-add xs s (n - length xs))

pub puts_cut : (a b : Output) (s : List ℕ) → a.failed ≡ false → b.failed ≡ true → a.kept ≡ [] → Puts a b s → ((n : ℕ) × Appends a.sent b.sent (take n s)) × (b.faults ≡ min (a.faults + 1) (2 ^ 64 - 1))
puts_cut a b s fa fb ka p =
    let f = rw (fa, fb) at (p.faults a.faults) in
    (known_cut a b a.sent b.sent s fa fb ka p.text, f refl)

-- ---- the same of a writer

module _ {W : Type 0} {contents : W → Option (List ℕ)} {faults : W → ℕ} where
  pub writes_then : {a b c : Writer W} {s t : List ℕ} → Writes contents faults a b s → Writes contents faults b c t → Writes contents faults a c (s ++ t)
  writes_then p q = record { same = q.same ∙ p.same; puts = puts_then _ _ _ _ _ p.puts q.puts }

  pub writes_none : (a : Writer W) → Writes contents faults a a []
  writes_none a = record { same = refl; puts = puts_none (output contents faults a) }

  pub writes_as : {a b : Writer W} {s t : List ℕ} → Writes contents faults a b s → s ≡ t → Writes contents faults a b t
  writes_as p e = record { same = p.same; puts = puts_as _ _ _ _ p.puts e }

-- a writer that was new, once all is handed over, and where its device failed
module _ {W : Type 0} {contents : W → Option (List ℕ)} {faults : W → ℕ} {a b : Writer W} {was : ℕ} {sent : Option (List ℕ)} {s : List ℕ}
    (fresh : output contents faults a ≡ record { failed = false; faults = was; sent = sent; kept = [] }) (p : Writes contents faults a b s) where
  puts_fresh : Puts (record { failed = false; faults = was; sent = sent; kept = [] }) (output contents faults b) s
  puts_fresh = subst (λ (o : Output). Puts o (output contents faults b) s) fresh p.puts

  pub writes_done : b.failed ≡ false → b.bytes.items ≡ [] → {device : W} → device ≡ b.device.now → Appends sent (contents device) s
  writes_done f k e = rw e (puts_done _ _ _ refl f refl k puts_fresh).0

  pub writes_sound : b.failed ≡ false → b.bytes.items ≡ [] → {device : W} → device ≡ b.device.now → faults device ≡ was
  writes_sound f k e = rw e (puts_done _ _ _ refl f refl k puts_fresh).1

  pub writes_cut : b.failed ≡ true → {device : W} → device ≡ b.device.now → (n : ℕ) × Appends sent (contents device) (take n s)
  writes_cut f e = rw e (puts_cut _ _ _ refl f refl puts_fresh).0

  pub writes_rose : b.failed ≡ true → {device : W} → device ≡ b.device.now → faults device ≡ min (was + 1) (2 ^ 64 - 1)
  writes_rose f e = rw e (puts_cut _ _ _ refl f refl puts_fresh).1
