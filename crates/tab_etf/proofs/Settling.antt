-- What sorted keys say of the pairs as they were read.
use Rattle.std.proofs.Common.{◌≡◌, ◌≢◌, inl, inr, ℕ, suc, ◌+◌, ◌-◌, ◌<◌, ◌≤◌, false, true≢false, List, [], ◌∷◌, length, get_or, drop, drop-cons, swap, AllPairs, All, IsPermutation, IsSortedBy, Option, Some, None, Result, Err, lt-ltb, refl, sym, ap, ap₂, ◌∙◌, arith}
use Rattle.std.specs.declared.cmp.Ordering.{Ordering}
use Rattle.std.specs.declared.cmp.Ordering.TheVariants.{Less, Equal, Greater}
use Rattle.std.specs.Ordering.{is_lt, nat_cmp, ordering_then, ordering_reverse}
use Rattle.std.specs.List.{SwappedAt}
use Rattle.std.proofs.lemmas.Bool.Decides.{nat_tests}
use Rattle.std.proofs.lemmas.Cmp.{then_total, on_total, nat_cmp_total, nat_list_cmp_total, tied_itself}
use Rattle.std.proofs.lemmas.List.{get_or_default}
use Rattle.std.proofs.lemmas.List.Edits.{swapped_from_swap, swap_is, length-swap}
use Rattle.std.proofs.lemmas.List.Sorted.{IsPermutation-keeps, All-permutation, Contains-permutation, length_permutation, ranks_by, sorted_far}
use Rattle.tab_term.specs.declared.term.Term.{Term}
use Rattle.tab_term.specs.Data.{PlainPairs, no_pair}
use Rattle.tab_term.specs.Numbers.{lists_are}
use Rattle.tab_term.specs.Order.{bytes_cmp}
use Rattle.tab_term.specs.OrderLaws.{canon_same}
use Rattle.tab_term.specs.View.{pairs}
use Rattle.tab_etf.specs.declared.fault.Fault.TheVariants as faults
use Rattle.tab_etf.specs.declared.fault.Stop.{Stop}
use Rattle.tab_etf.specs.declared.run.Key.{Key}
use Rattle.tab_etf.specs.Keyed.{spelling_at, key_order, IsTwiceAt, IsFirstTwice, IsOrder, no_terms, picked}
use Rattle.tab_etf.specs.Reading.{stop}
use Rattle.tab_etf.specs.Runs.{Entry, put_all, first_stop, IsFirstFault, IsNoted, AreNoted, ArePaired}
use Rattle.tab_etf.proofs.Exchanges.{source, source_once, source_below, from_source}
use Rattle.tab_etf.proofs.KeyedLemmas.{no_key}
use Rattle.tab_etf.proofs.RunsLemmas.{no_entry, entry_at, kept, kept_has, IsApart, puts}

-- ---- a permutation has no number twice

abbrev AreDistinct : List Key → Type 0
AreDistinct ks = (i j : ℕ) (d : Key) → i < length ks → j < length ks → (get_or ks i d).pair ≡ (get_or ks j d).pair → i ≡ j

swapped_at : (ks : List Key) (i j : ℕ) → i < length ks → j < length ks → SwappedAt ks (swap ks i j) i j
swapped_at ks i j a b =
    let by = λ (d : Key). swapped_from_swap ks (swap ks i j) i j d a b refl in
    (λ d. (by d).0, λ d. (by d).1, λ k d. (by d).2 k, λ d. sym (swap_is ks i j d a b))

distinct_swap : (ks : List Key) (i j : ℕ) → i < length ks → j < length ks → AreDistinct ks → AreDistinct (swap ks i j)
distinct_swap ks i j a b h k l d p q e =
    let s = swapped_at ks i j a b in
    let n = length-swap ks i j in
    let k_in = source_below (length ks) i j k a b (omega (arith, p, n)) in
    let l_in = source_below (length ks) i j l a b (omega (arith, q, n)) in
    let at = λ (m : ℕ). ap (λ (x : Key). x.pair) (from_source ks (swap ks i j) i j s m d) in
    source_once i j k l (h (source i j k) (source i j l) d k_in l_in (sym (at k) ∙ e ∙ at l))

-- ---- two spellings

is_equal : (o : Ordering) → o ≢ Less → ordering_reverse o ≢ Less → o ≡ Equal
is_equal Less a b = absurd (a refl)
is_equal Equal a b = refl
is_equal Greater a b = absurd (b refl)

same_by : (a b : List ℕ) → bytes_cmp a b ≢ Less → bytes_cmp b a ≢ Less → a ≡ b
same_by a b h g = lists_are a b (is_equal (bytes_cmp a b) h (λ e. g (nat_list_cmp_total.antisymm b a ∙ e)))

drop_all : {X : Type 0} (xs : List X) → drop (length xs) xs ≡ []
drop_all [] = refl
drop_all (x ∷ xs) = drop_all xs

same_pairs : (i j : ℕ) → is_lt (nat_cmp i j) ≡ false → j ≤ i
same_pairs i j h = grind (arith, nat_tests)

module _ (s : List ℕ) (ks : List Key) (es : List Entry) (noted : AreNoted s ks es) (ss : List Key) (perm : IsPermutation ks ss) where
  abbrev same_length : length ss ≡ length es
  same_length = length_permutation ks ss perm ∙ noted.len

  are_distinct : AreDistinct ss
  are_distinct = IsPermutation-keeps ks AreDistinct (λ i j d a b e. sym (noted.each i d no_entry (omega (arith, a, noted.len))).pair ∙ e ∙ (noted.each j d no_entry (omega (arith, b, noted.len))).pair) (λ l i j a b h. distinct_swap l i j a b h) ss perm

  distinct_pairs : AllPairs (λ k l. k.pair ≢ l.pair) ss
  distinct_pairs i j d h l e = absurd (let same : i ≡ j = are_distinct i j d (omega arith) l e in omega arith)

  abbrev IsEntry : Key → Type 0
  IsEntry k = (k.pair < length es) × IsNoted s k.pair k (entry_at es k.pair)

  all_entries : All IsEntry ks
  all_entries i d h =
      let inside : i < length es = omega (arith, h, noted.len) in
      let n = noted.each i d no_entry inside in
      rw n.pair (inside, n)

  entries : (p : ℕ) (d : Key) → p < length ss → IsEntry (get_or ss p d)
  entries = All-permutation IsEntry ks ss perm all_entries

  every : (i : ℕ) → i < length es → (p : ℕ) × (p < length es) × ((d : Key) → (get_or ss p d).pair ≡ i)
  every i h =
      let k = get_or ks i no_key in
      let inside : i < length ks = omega (arith, h, noted.len) in
      let w = Contains-permutation ks ss k perm (i, inside, get_or_default ks i k no_key inside) in
      (w.0, omega (arith, w.1, same_length), λ d. ap (λ (x : Key). x.pair) (get_or_default ss w.0 d k w.1 ∙ w.2) ∙ (noted.each i no_key no_entry h).pair)

  pub is_order : (n : ℕ) → n ≡ length es → IsOrder ss n
  is_order n e = record {
    len = same_length ∙ sym e;
    below = λ p d h. omega (arith, (entries p d (omega (arith, h, e, same_length))).0, e);
    distinct = distinct_pairs;
    whole = λ i h. let w = every i (omega (arith, h, e)) in (w.0, omega (arith, w.1, e), w.2);
  }

  module _ (up : IsSortedBy (λ k l. is_lt (key_order s k l)) ss) where
    falls_not : (i j : ℕ) (d : Key) → i ≤ j → j < length ss → is_lt (key_order s (get_or ss j d) (get_or ss i d)) ≡ false
    falls_not = sorted_far (λ k l. is_lt (key_order s k l)) (ranks_by (then_total (on_total (spelling_at s) nat_list_cmp_total) (on_total (λ (k : Key). k.pair) nat_cmp_total)) (λ (k : Key). k)) ss up

    spelling_not_less : (i j : ℕ) (d : Key) → i ≤ j → j < length ss → bytes_cmp (spelling_at s (get_or ss j d)) (spelling_at s (get_or ss i d)) ≢ Less
    spelling_not_less i j d h l e = true≢false (sym (ap (λ o. is_lt (ordering_then o (nat_cmp (get_or ss j d).pair (get_or ss i d).pair))) e) ∙ falls_not i j d h l)

    -- the spelling of two is that of each between them
    between : (p q : ℕ) (d : Key) → p < q → q < length ss → spelling_at s (get_or ss p d) ≡ spelling_at s (get_or ss q d) → spelling_at s (get_or ss (q - 1) d) ≡ spelling_at s (get_or ss (q - 1 + 1) d)
    between p q d h l e =
        let at : q - 1 + 1 ≡ q = omega arith in
        let low = spelling_not_less p (q - 1) d (omega arith) (omega arith) in
        let high = spelling_not_less (q - 1) q d (omega arith) l in
        rw at (same_by _ _ (λ f. low (ap (bytes_cmp (spelling_at s (get_or ss (q - 1) d))) e ∙ f)) high)

    module _ (m : ℕ) (until : (p : ℕ) (d : Key) → p + 1 < length ss → IsTwiceAt s ss p → m ≤ (get_or ss (p + 1) d).pair) where
      pub apart : AllPairs (IsApart (entry_at es) m) ss
      apart p q d h l =
          let a = spelling_at s (get_or ss p d) in
          let b = spelling_at s (get_or ss q d) in
          let p_in : p < length ss = omega arith in
          let at : q - 1 + 1 ≡ q = omega arith in
          elim (bytes_cmp a b) as (λ o. bytes_cmp a b ≡ o → IsApart (entry_at es) m (get_or ss p d) (get_or ss q d)) [
            | Less ↦ λ e. inl (ap₂ bytes_cmp (sym (entries p d p_in).1.spelling) (sym (entries q d l).1.spelling) ∙ e)
            | Equal ↦ λ e.
                let same = λ (c : Key). ap (spelling_at s) (get_or_default ss p c d p_in) ∙ lists_are a b e ∙ ap (spelling_at s) (get_or_default ss q d c l) in
                inr (rw at at (until (q - 1) d (omega arith) (λ c. between p q c h l (same c))))
            | Greater ↦ λ e. absurd (spelling_not_less p q d (omega arith) l (nat_list_cmp_total.antisymm b a ∙ ap ordering_reverse e))
          ] refl

    module _ {A : Type 0} (go_on : PlainPairs → Result A Stop) where
      abbrev puts_until : (m : ℕ) → m ≤ length es → AllPairs (IsApart (entry_at es) m) ss → put_all no_pair es go_on ≡ put_all (kept (entry_at es) m ss) (drop m es) go_on
      puts_until = puts es ss go_on distinct_pairs every same_length

      twice_behind : (p : ℕ) → p + 1 < length ss → IsTwiceAt s ss p → ((q : ℕ) (d : Key) → q + 1 < length ss → IsTwiceAt s ss q → (get_or ss (p + 1) no_key).pair ≤ (get_or ss (q + 1) d).pair)
          → put_all no_pair es go_on ≡ stop faults.DuplicateKey (get_or ss (p + 1) no_key).left
      twice_behind p h t least =
          let a : Key = get_or ss p no_key in
          let b : Key = get_or ss (p + 1) no_key in
          let before : p < length ss = omega arith in
          let first = entries p no_key before in
          let second = entries (p + 1) no_key h in
          let tie : bytes_cmp (spelling_at s b) (spelling_at s a) ≡ Equal = ap (λ x. bytes_cmp x (spelling_at s a)) (sym (t no_key)) ∙ tied_itself nat_list_cmp_total (spelling_at s a) in
          let not_less : is_lt (nat_cmp b.pair a.pair) ≡ false = sym (ap (λ o. is_lt (ordering_then o (nat_cmp b.pair a.pair))) tie) ∙ falls_not p (p + 1) no_key (omega arith) h in
          let up_to : a.pair ≤ b.pair = same_pairs b.pair a.pair not_less in
          let other : a.pair ≢ b.pair = distinct_pairs p (p + 1) no_key (omega arith) h in
          let same : (entry_at es a.pair).0 ≡ (entry_at es b.pair).0 = canon_same _ _ (ap₂ bytes_cmp (sym first.1.spelling) (sym second.1.spelling) ∙ ap (bytes_cmp (spelling_at s a)) (sym (t no_key)) ∙ tied_itself nat_list_cmp_total (spelling_at s a)) in
          let has = kept_has (entry_at es) b.pair (entry_at es b.pair).0 ss p no_key before (omega arith) same in
          let step : put_all (kept (entry_at es) b.pair ss) (drop b.pair es) go_on ≡ stop faults.DuplicateKey (entry_at es b.pair).2 = rw (drop-cons es b.pair no_entry second.0, has) refl in
          puts_until b.pair (omega (arith, second.0)) (apart b.pair least) ∙ step ∙ ap (stop faults.DuplicateKey) (sym second.1.left)

      pub twice : (k : Key) → IsFirstTwice s ss (length ss) (Some k) → put_all no_pair es go_on ≡ stop faults.DuplicateKey k.left
      twice k f =
          let here = f.0.3 no_key in
          twice_behind f.0.0 f.0.1 f.0.2 (λ q d h t. rw here (f.1 q d h t)) ∙ ap (λ (x : Key). stop faults.DuplicateKey x.left) here

      pub once : IsFirstTwice s ss (length ss) None → put_all no_pair es go_on ≡ go_on (kept (entry_at es) (length es) ss)
      once f =
          puts_until (length es) (omega arith) (apart (length es) (λ p d h t. absurd (f p h t)))
          ∙ ap (λ (rest : List Entry). put_all (kept (entry_at es) (length es) ss) rest go_on) (drop_all es)

    pub stops_first : (at : Stop) (r : Option Key) → IsFirstTwice s ss (length ss) r → IsFirstFault es at (first_stop r at)
    stops_first at None f = once (λ ps. Err at) f
    stops_first at (Some k) f = twice (λ ps. Err at) k f

    kept_pairs : (ps : List (Term × Term)) → ArePaired ps es → (ls : List Key) → ((p : ℕ) (d : Key) → p < length ls → (get_or ls p d).pair < length es) → kept (entry_at es) (length es) ls ≡ pairs (picked ps ls)
    kept_pairs ps paired [] h = refl
    kept_pairs ps paired (l ∷ ls) h =
        let inside = h 0 no_key (omega arith) in
        let others = kept_pairs ps paired ls (λ p d i. h (suc p) d (omega arith)) in
        rw (lt-ltb l.pair (length es) inside, others, paired.keys l.pair no_terms no_entry inside, paired.values l.pair no_terms no_entry inside) refl

    pub all_pairs : (ps : List (Term × Term)) → ArePaired ps es → kept (entry_at es) (length es) ss ≡ pairs (picked ps ss)
    all_pairs ps paired = kept_pairs ps paired ss (λ p d h. (entries p d h).0)
