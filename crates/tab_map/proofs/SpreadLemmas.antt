-- A key among the branches of a node: what is worked on in one child, or at one branch.
use Rattle.std.proofs.Common.{None, Some, slice_get, slice_set, zero, suc, ◌≡◌, ℕ, ◌≤◌, List, [], ◌∷◌, ◌++◌, length, append_assoc, append-nil, refl, sym, ap, ◌∙◌, subst, arith}
use Rattle.std.proofs.lemmas.List.{length-map}
use Rattle.std.proofs.Math.Seq.{set-append_seam}
use Rattle.std.specs.declared.cmp.Ordering.{Ordering}
use Rattle.std.specs.declared.cmp.Ordering.TheVariants.{Less, Equal}
use Rattle.std.specs.Cmp.{IsTotalOrder}
use Rattle.tab_map.specs.declared.Branch.{Branch}
use Rattle.tab_map.specs.declared.Tree.{Tree}
use Rattle.tab_map.specs.declared.Tree.TheVariants.{Node}
use Rattle.tab_map.specs.Entries.{lookup, insert_entry, remove_entry, entries_above, AllAbove, Ascends}
use Rattle.tab_map.specs.InOrder.{spread, separators, entries, HasBranch}
use Rattle.tab_map.specs.Places.{IsPast, IsBelow, HasAt, IsGap}
use Rattle.tab_map.proofs.EntriesLemmas.{IsNode, lookup_less, lookup_equal, lookup_greater, above_greater, inserted_less, inserted_equal, inserted_greater, removed_less, removed_equal, removed_greater}
use Rattle.tab_map.proofs.AscendsLemmas.{last_two, above_back, ascends_back, not_empty}
use Rattle.tab_map.proofs.PlacesLemmas.{get_seam, head_is, past_before}

pub record IsRoot {K V : Type 0} (cmp : K → K → Ordering) (d : List (K × V)) (bs : List (Branch K V)) (m : List (K × V)) : Type 0 where
  pub is : d ≡ spread bs m
  pub sorted : Ascends cmp (spread bs m)
  pub some : 1 ≤ length bs

module _ {K V : Type 0} where
  -- what a map is once its root is a node
  pub is_root : (cmp : K → K → Ordering) {root : Tree K V} {d : List (K × V)} {f : _} → entries root ≡ d → Ascends cmp (entries root) × HasBranch root → root ≡ Node f → IsRoot cmp d f.value.branches.items f.value.last
  is_root cmp {root} {d} {f} view_is both is = record { is = sym view_is ∙ ap entries is; sorted = subst (Ascends cmp) (ap entries is) both.0; some = subst HasBranch is both.1 }

  pub spread-append : (xs ys : List (Branch K V)) (m : List (K × V)) → spread (xs ++ ys) m ≡ spread xs (spread ys m)
  spread-append [] ys m = refl
  spread-append (b ∷ xs) ys m = ap (λ z. b.below ++ b.entry ∷ z) (spread-append xs ys m)

  pub spread-onto : (bs : List (Branch K V)) (l m : List (K × V)) → spread bs (l ++ m) ≡ spread bs l ++ m
  spread-onto [] l m = refl
  spread-onto (b ∷ bs) l m = ap (λ z. b.below ++ b.entry ∷ z) (spread-onto bs l m) ∙ sym (append_assoc b.below (b.entry ∷ spread bs l) m)

  pub none_left : (l : List (Branch K V)) → slice_get l 0 ≡ None → l ≡ []
  none_left [] p = refl
  none_left (b ∷ l) p = absurd (cc)

  -- the entries without the one of the branch at n
  abbrev pub without_entry : ℕ → List (Branch K V) → List (K × V) → List (K × V)
  without_entry n [] last = last
  without_entry zero (b ∷ bs) last = b.below ++ spread bs last
  without_entry (suc n) (b ∷ bs) last = b.below ++ b.entry ∷ without_entry n bs last

  without_is : (bs before after : List (Branch K V)) (n : ℕ) (m : List (K × V)) (b : Branch K V) → bs ≡ before ++ b ∷ after → length before ≡ n → without_entry n bs m ≡ spread before (b.below ++ spread after m)
  without_is bs [] after n m b p q = rw (p, sym q) refl
  without_is bs (x ∷ before) after n m b p q =
      rw (p, sym q) (ap (λ z. x.below ++ x.entry ∷ z) (without_is (before ++ b ∷ after) before after (length before) m b refl refl))

module _ {K V : Type 0} (cmp : K → K → Ordering) where
  -- the first branch of a node as an entry of a binary tree
  pub first_node : (b : Branch K V) (bs : List (Branch K V)) (m : List (K × V)) → Ascends cmp (spread (b ∷ bs) m) → IsNode cmp (spread (b ∷ bs) m) b.below b.entry (spread bs m)
  first_node b bs m s = record { is = refl; sorted = s }

  pub later : (b : Branch K V) (bs : List (Branch K V)) (m : List (K × V)) → Ascends cmp (spread (b ∷ bs) m) → Ascends cmp (spread bs m)
  later b bs m s = last_two cmp b.below b.entry (spread bs m) s

  spread_last : (bs : List (Branch K V)) (m : List (K × V)) → Ascends cmp (spread bs m) → Ascends cmp m
  spread_last [] m s = s
  spread_last (b ∷ bs) m s = spread_last bs m (later b bs m s)

  pub not_bare : (d : List (K × V)) (bs : List (Branch K V)) (m : List (K × V)) → IsRoot cmp d bs m → d ≡ [] → ⊥
  not_bare d [] m f p = absurd (omega (arith, f.some))
  not_bare d (b ∷ bs) m f p = not_empty b.below b.entry (spread bs m) (sym f.is ∙ p)

  above_separators : (k : K) (bs : List (Branch K V)) (m : List (K × V)) → AllAbove cmp k (spread bs m) → AllAbove cmp k (separators bs)
  above_separators k [] m a = tt
  above_separators k (b ∷ bs) m a =
      let h = above_back cmp k b.below (b.entry ∷ spread bs m) a in
      (h.0, above_separators k bs m h.1)

  pub separators_ascend : (bs : List (Branch K V)) (m : List (K × V)) → Ascends cmp (spread bs m) → Ascends cmp (separators bs)
  separators_ascend [] m s = tt
  separators_ascend (b ∷ bs) m s =
      let h = ascends_back cmp b.below (b.entry ∷ spread bs m) s in
      (above_separators b.entry.0 bs m h.0, separators_ascend bs m h.1)

module _ {K V : Type 0} {cmp : K → K → Ordering} (o : IsTotalOrder cmp) where
  pub past_lookup : (k : K) (bs : List (Branch K V)) (m : List (K × V)) → IsPast cmp k (separators bs) → Ascends cmp (spread bs m) → lookup cmp k (spread bs m) ≡ lookup cmp k m
  past_lookup k [] m p s = refl
  past_lookup k (b ∷ bs) m p s = lookup_greater o k (first_node cmp b bs m s) p.0 ∙ past_lookup k bs m p.1 (later cmp b bs m s)

  pub past_above : (k : K) (bs : List (Branch K V)) (m : List (K × V)) → IsPast cmp k (separators bs) → Ascends cmp (spread bs m) → entries_above cmp k (spread bs m) ≡ entries_above cmp k m
  past_above k [] m p s = refl
  past_above k (b ∷ bs) m p s = above_greater o k (first_node cmp b bs m s) p.0 ∙ past_above k bs m p.1 (later cmp b bs m s)

  past_insert : (x : K × V) (bs : List (Branch K V)) (m : List (K × V)) → IsPast cmp x.0 (separators bs) → Ascends cmp (spread bs m) → insert_entry cmp x (spread bs m) ≡ spread bs (insert_entry cmp x m)
  past_insert x [] m p s = refl
  past_insert x (b ∷ bs) m p s =
      let h = inserted_greater o x (first_node cmp b bs m s) p.0 in
      h.is ∙ ap (λ z. b.below ++ b.entry ∷ z) (past_insert x bs m p.1 (later cmp b bs m s))

  past_remove : (k : K) (bs : List (Branch K V)) (m : List (K × V)) → IsPast cmp k (separators bs) → Ascends cmp (spread bs m) → remove_entry cmp k (spread bs m) ≡ spread bs (remove_entry cmp k m)
  past_remove k [] m p s = refl
  past_remove k (b ∷ bs) m p s =
      let h = removed_greater o k (first_node cmp b bs m s) p.0 in
      h.is ∙ ap (λ z. b.below ++ b.entry ∷ z) (past_remove k bs m p.1 (later cmp b bs m s))

module _ {K V : Type 0} {cmp : K → K → Ordering} where
  -- a copy of the node
  pub same_root : {d : List (K × V)} {bs bs' : List (Branch K V)} {m m' : List (K × V)} → IsRoot cmp d bs m → bs' ≡ bs → m' ≡ m → IsRoot cmp d bs' m'
  same_root {d} {bs} {bs'} {m} {m'} f p q = subst (λ z. IsRoot cmp d z m') (sym p) (subst (λ z. IsRoot cmp d bs z) (sym q) f)

-- a branch b of bs, with k above all before it
pub record AtBranch {K V : Type 0} (cmp : K → K → Ordering) (k : K) (bs : List (Branch K V)) (n : ℕ) (m : List (K × V)) (b : Branch K V) : Type 0 where
  pub before : List (Branch K V)
  pub after : List (Branch K V)
  pub is : bs ≡ before ++ b ∷ after
  pub count : length before ≡ n
  pub passes : IsPast cmp k (separators before)
  pub whole : spread bs m ≡ spread before (spread (b ∷ after) m)
  pub sorted : Ascends cmp (spread before (spread (b ∷ after) m))
  pub node : IsNode cmp (spread (b ∷ after) m) b.below b.entry (spread after m)

module _ {K V : Type 0} {cmp : K → K → Ordering} where
  at_branch : (k : K) (bs before after : List (Branch K V)) (n : ℕ) (m : List (K × V)) (b : Branch K V) → bs ≡ before ++ b ∷ after → length before ≡ n → IsPast cmp k (separators before) → Ascends cmp (spread bs m) → AtBranch cmp k bs n m b
  at_branch k bs before after n m b is count passes s =
      let p = ap (λ z. spread z m) is ∙ spread-append before (b ∷ after) m in
      let t = subst (Ascends cmp) p s in
      record {
        before = before;
        after = after;
        is = is;
        count = count;
        passes = passes;
        whole = p;
        sorted = t;
        node = first_node cmp b after m (spread_last cmp before (spread (b ∷ after) m) t);
      }

-- a branch whose entry has the key
pub record Found {K V : Type 0} (cmp : K → K → Ordering) (k : K) (bs : List (Branch K V)) (n : ℕ) (m : List (K × V)) : Type 0 where
  pub branch : Branch K V
  pub place : AtBranch cmp k bs n m branch
  pub equal : cmp k branch.entry.0 ≡ Equal

-- branches that are cut where the entries between the children are
record Cut {K V : Type 0} (bs : List (Branch K V)) (l m : List (K × V)) : Type 0 where
  pub before : List (Branch K V)
  pub after : List (Branch K V)
  pub is : bs ≡ before ++ after
  pub front : separators before ≡ l
  pub back : separators after ≡ m

module _ {K V : Type 0} where
  cut_more : (b : Branch K V) (bs : List (Branch K V)) (e : K × V) (l m : List (K × V)) → b.entry ≡ e → Cut bs l m → Cut (b ∷ bs) (e ∷ l) m
  cut_more b bs e l m entry c = record {
    before = b ∷ c.before;
    after = c.after;
    is = ap (λ z. b ∷ z) c.is;
    front = ap (λ z. z ∷ separators c.before) entry ∙ ap (λ z. e ∷ z) c.front;
    back = c.back;
  }

  cut : (bs : List (Branch K V)) (l m : List (K × V)) → separators bs ≡ l ++ m → Cut bs l m
  cut bs [] m p = record { before = []; after = bs; is = refl; front = refl; back = p }
  cut [] (e ∷ l) m p = absurd (cc)
  cut (b ∷ bs) (e ∷ l) m p =
      let rest : separators bs ≡ l ++ m = cc in
      cut_more b bs e l m (cc) (cut bs l m rest)

  cut_count : (bs : List (Branch K V)) (l m : List (K × V)) (n : ℕ) (c : Cut bs l m) → length l ≡ n → length c.before ≡ n
  cut_count bs l m n c p = sym (length-map c.before (λ b. b.entry)) ∙ ap length c.front ∙ p

  cut_get : (bs : List (Branch K V)) (l m : List (K × V)) (n : ℕ) (c : Cut bs l m) → length l ≡ n → slice_get bs n ≡ slice_get c.after 0
  cut_get bs l m n c p = ap (λ z. slice_get z n) c.is ∙ ap (λ i. slice_get (c.before ++ c.after) i) (sym (cut_count bs l m n c p)) ∙ get_seam c.before c.after

  first_branch : (bs : List (Branch K V)) (e : K × V) (m : List (K × V)) → separators bs ≡ e ∷ m → (b : Branch K V) × (slice_get bs 0 ≡ Some b)
  first_branch [] e m p = absurd (cc)
  first_branch (b ∷ bs) e m p = (b, refl)

module _ {K V : Type 0} {cmp : K → K → Ordering} where
  cut_branch : (k : K) (bs : List (Branch K V)) (l r : List (K × V)) (n : ℕ) (m : List (K × V)) (b : Branch K V) (c : Cut bs l r) → length l ≡ n → IsPast cmp k l → slice_get c.after 0 ≡ Some b → Ascends cmp (spread bs m) → AtBranch cmp k bs n m b × ((after : List (Branch K V)) × (separators (b ∷ after) ≡ r))
  cut_branch k bs l r n m b c count past p s =
      let h = head_is c.after b p in (
        at_branch k bs c.before h.0 n m b (c.is ∙ ap (λ z. c.before ++ z) h.1) (cut_count bs l r n c count) (subst (IsPast cmp k) (sym c.front) past) s,
        (h.0, ap separators (sym h.1) ∙ c.back),
      )

  -- the branch above the child to which the key belongs
  pub child_branch : (k : K) (bs : List (Branch K V)) (n : ℕ) (m : List (K × V)) (b : Branch K V) → IsGap cmp k (separators bs) n → slice_get bs n ≡ Some b → Ascends cmp (spread bs m) → AtBranch cmp k bs n m b × (cmp k b.entry.0 ≡ Less)
  child_branch k bs n m b f p s =
      let c = cut bs f.before f.after f.is in
      let h = cut_branch k bs f.before f.after n m b c f.count f.past (sym (cut_get bs f.before f.after n c f.count) ∙ p) s in
      (h.0, subst (IsBelow cmp k) (sym h.1.1) f.below)

  pub set_branch : (k : K) (bs : List (Branch K V)) (n : ℕ) (m : List (K × V)) (b : Branch K V) → (h : AtBranch cmp k bs n m b) → (u : List (K × V)) (e : K × V) → spread (slice_set bs n record { below = u; entry = e }) m ≡ spread h.before (u ++ e ∷ spread h.after m)
  set_branch k bs n m b h u e =
      let b' : Branch K V = record { below = u; entry = e } in
      ap (λ z. spread (slice_set z n b') m) h.is ∙ ap (λ i. spread (slice_set (h.before ++ b ∷ h.after) i b') m) (sym h.count)
      ∙ ap (λ z. spread z m) (set-append_seam h.before b h.after b') ∙ spread-append h.before (b' ∷ h.after) m

  -- the key belongs to the last child
  pub last_child : (k : K) (bs : List (Branch K V)) (n : ℕ) → IsGap cmp k (separators bs) n → slice_get bs n ≡ None → IsPast cmp k (separators bs)
  last_child k bs n f p =
      let c = cut bs f.before f.after f.is in
      let e = none_left c.after (sym (cut_get bs f.before f.after n c f.count) ∙ p) in
      subst (λ z. IsPast cmp k (separators z)) (sym (c.is ∙ ap (λ z. c.before ++ z) e ∙ append-nil c.before)) (subst (IsPast cmp k) (sym c.front) f.past)

module _ {K V : Type 0} {cmp : K → K → Ordering} (o : IsTotalOrder cmp) where
  -- the branch whose entry has the key
  pub found_branch : (k : K) (bs : List (Branch K V)) (n : ℕ) (m : List (K × V)) → HasAt cmp k (separators bs) n → Ascends cmp (spread bs m) → Found cmp k bs n m
  found_branch k bs n m f s =
      let c = cut bs f.before (f.entry ∷ f.after) f.is in
      let b = first_branch c.after f.entry f.after c.back in
      let past = past_before o k f.before f.entry f.after (subst (Ascends cmp) f.is (separators_ascend cmp bs m s)) (λ h. cc) in
      let h = cut_branch k bs f.before (f.entry ∷ f.after) n m b.0 c f.count past b.1 s in
      let entry : b.0.entry ≡ f.entry = cc in
      record { branch = b.0; place = h.0; equal = ap (λ z. cmp k z.0) entry ∙ f.equal }

  branch_is : (k : K) (bs : List (Branch K V)) (n : ℕ) (m : List (K × V)) (b : Branch K V) → HasAt cmp k (separators bs) n → slice_get bs n ≡ Some b → Ascends cmp (spread bs m) → AtBranch cmp k bs n m b × (cmp k b.entry.0 ≡ Equal)
  branch_is k bs n m b f p s =
      let h = found_branch k bs n m f s in
      let q : Some h.branch ≡ Some b = sym (ap (λ z. slice_get z n) h.place.is ∙ ap (λ i. slice_get (h.place.before ++ h.branch ∷ h.place.after) i) (sym h.place.count) ∙ get_seam h.place.before (h.branch ∷ h.place.after)) ∙ p in
      let e : h.branch ≡ b = cc in
      subst (λ z. AtBranch cmp k bs n m z × (cmp k z.entry.0 ≡ Equal)) e (h.place, h.equal)

module _ {K V : Type 0} {cmp : K → K → Ordering} (o : IsTotalOrder cmp) where
  pub last_lookup : (k : K) (bs : List (Branch K V)) (n : ℕ) (m : List (K × V)) → IsGap cmp k (separators bs) n → slice_get bs n ≡ None → Ascends cmp (spread bs m) → lookup cmp k (spread bs m) ≡ lookup cmp k m
  last_lookup k bs n m f p s = past_lookup o k bs m (last_child k bs n f p) s

  pub child_lookup : (k : K) (bs : List (Branch K V)) (n : ℕ) (m : List (K × V)) (b : Branch K V) → IsGap cmp k (separators bs) n → slice_get bs n ≡ Some b → Ascends cmp (spread bs m) → lookup cmp k (spread bs m) ≡ lookup cmp k b.below
  child_lookup k bs n m b f p s =
      let h = child_branch k bs n m b f p s in
      ap (lookup cmp k) h.0.whole ∙ past_lookup o k h.0.before (spread (b ∷ h.0.after) m) h.0.passes h.0.sorted ∙ lookup_less k h.0.node h.1

  pub child_insert : (x : K × V) (bs : List (Branch K V)) (n : ℕ) (m : List (K × V)) (b : Branch K V) → IsGap cmp x.0 (separators bs) n → slice_get bs n ≡ Some b → Ascends cmp (spread bs m) → spread (slice_set bs n record { below = insert_entry cmp x b.below; entry = b.entry }) m ≡ insert_entry cmp x (spread bs m)
  child_insert x bs n m b f p s =
      let h = child_branch x.0 bs n m b f p s in
      set_branch x.0 bs n m b h.0 (insert_entry cmp x b.below) b.entry
      ∙ sym (ap (insert_entry cmp x) h.0.whole ∙ past_insert o x h.0.before (spread (b ∷ h.0.after) m) h.0.passes h.0.sorted ∙ ap (λ z. spread h.0.before z) (inserted_less o x h.0.node h.1).is)

  pub last_insert : (x : K × V) (bs : List (Branch K V)) (n : ℕ) (m : List (K × V)) → IsGap cmp x.0 (separators bs) n → slice_get bs n ≡ None → Ascends cmp (spread bs m) → spread bs (insert_entry cmp x m) ≡ insert_entry cmp x (spread bs m)
  last_insert x bs n m f p s = sym (past_insert o x bs m (last_child x.0 bs n f p) s)

  pub found_insert : (x : K × V) (bs : List (Branch K V)) (n : ℕ) (m : List (K × V)) (b : Branch K V) → HasAt cmp x.0 (separators bs) n → slice_get bs n ≡ Some b → Ascends cmp (spread bs m) → spread (slice_set bs n record { below = b.below; entry = x }) m ≡ insert_entry cmp x (spread bs m)
  found_insert x bs n m b f p s =
      let h = branch_is o x.0 bs n m b f p s in
      set_branch x.0 bs n m b h.0 b.below x
      ∙ sym (ap (insert_entry cmp x) h.0.whole ∙ past_insert o x h.0.before (spread (b ∷ h.0.after) m) h.0.passes h.0.sorted ∙ ap (λ z. spread h.0.before z) (inserted_equal o x h.0.node h.1).is)

  pub found_value : (k : K) (bs : List (Branch K V)) (n : ℕ) (m : List (K × V)) (b : Branch K V) → HasAt cmp k (separators bs) n → slice_get bs n ≡ Some b → Ascends cmp (spread bs m) → lookup cmp k (spread bs m) ≡ Some b.entry.1
  found_value k bs n m b f p s =
      let h = branch_is o k bs n m b f p s in
      ap (lookup cmp k) h.0.whole ∙ past_lookup o k h.0.before (spread (b ∷ h.0.after) m) h.0.passes h.0.sorted ∙ lookup_equal o k h.0.node h.1

  pub child_remove : (k : K) (bs : List (Branch K V)) (n : ℕ) (m : List (K × V)) (b : Branch K V) → IsGap cmp k (separators bs) n → slice_get bs n ≡ Some b → Ascends cmp (spread bs m) → spread (slice_set bs n record { below = remove_entry cmp k b.below; entry = b.entry }) m ≡ remove_entry cmp k (spread bs m)
  child_remove k bs n m b f p s =
      let h = child_branch k bs n m b f p s in
      set_branch k bs n m b h.0 (remove_entry cmp k b.below) b.entry
      ∙ sym (ap (remove_entry cmp k) h.0.whole ∙ past_remove o k h.0.before (spread (b ∷ h.0.after) m) h.0.passes h.0.sorted ∙ ap (λ z. spread h.0.before z) (removed_less o k h.0.node h.1).is)

  pub last_remove : (k : K) (bs : List (Branch K V)) (n : ℕ) (m : List (K × V)) → IsGap cmp k (separators bs) n → slice_get bs n ≡ None → Ascends cmp (spread bs m) → spread bs (remove_entry cmp k m) ≡ remove_entry cmp k (spread bs m)
  last_remove k bs n m f p s = sym (past_remove o k bs m (last_child k bs n f p) s)

  pub found_remove : (k : K) (bs : List (Branch K V)) (n : ℕ) (m : List (K × V)) → HasAt cmp k (separators bs) n → Ascends cmp (spread bs m) → without_entry n bs m ≡ remove_entry cmp k (spread bs m)
  found_remove k bs n m f s =
      let h = found_branch o k bs n m f s in
      without_is bs h.place.before h.place.after n m h.branch h.place.is h.place.count
      ∙ sym (ap (remove_entry cmp k) h.place.whole ∙ past_remove o k h.place.before (spread (h.branch ∷ h.place.after) m) h.place.passes h.place.sorted ∙ ap (λ z. spread h.place.before z) (removed_equal o k h.place.node h.equal).0)
