-- The weights that a post keeps are those of the items that it sent last.
use Rattle.std.proofs.Common.{◌≡◌, ℕ, ◌+◌, ◌-◌, ◌≤◌, Bool, true, false, List, [], ◌∷◌, ◌++◌, length, length-append, map, sum, drop, take, refl, sym, ap, ◌∙◌, append_assoc, subst, arith, min, Option, Some, None}
use Rattle.std.specs.Prelude.{if◌then◌else◌, nat_lt, slice_get, sum_by, unwrap_or, option_map, IfSome}
use Rattle.std.proofs.lemmas.Bool.Decides.{nat_tests}
use Rattle.std.proofs.Math.Seq.{drop-append_seam}
use Rattle.std.proofs.lemmas.List.{take-append-drop, drop-map, map-append, length-map}
use Rattle.std.proofs.lemmas.List.Sums.{sum-map, sum_by-cons, sum_by_push, sum_by-le-sum_by}
use Rattle.circular_buffer.specs.Buffer.{keep_last}
use Rattle.tab_model.specs.Bytes.{item_memory}
use Rattle.tab_model.specs.declared.data.Item.{Item}
use Rattle.tab_post.specs.Rule.{EndsWith}
use Rattle.tab_post.specs.Weights.{Weighing, weight_of, is_heavy, with_bytes, AreWithin, Drops, IsOfLast, IsWeighed, WasHeavy}

-- the oldest weight is one of the sum
pub oldest : (ws : List ℕ) (o : Option ℕ) → o ≡ slice_get ws 0 → sum (drop 1 ws) + unwrap_or o 0 ≡ sum ws
oldest [] o e = rw e refl
oldest (x ∷ xs) o e = let all = sum_by-cons (λ n. n) x xs in rw e (omega arith)

-- with one weight more, of which the oldest goes if it has no place
pub sum_kept : (ws : List ℕ) (w room : ℕ) (o : Option ℕ) → length ws ≤ room → o ≡ (if nat_lt (length ws) room then None else slice_get (ws ++ w ∷ []) 0)
    → sum (keep_last room (ws ++ w ∷ [])) + unwrap_or o 0 ≡ sum ws + w
sum_kept ws w room o within e = by (nat_lt (length ws) room) refl e
  where
    by : (b : Bool) → nat_lt (length ws) room ≡ b → o ≡ (if b then None else slice_get (ws ++ w ∷ []) 0) → sum (keep_last room (ws ++ w ∷ [])) + unwrap_or o 0 ≡ sum ws + w
    by true is e =
        let n : length (ws ++ w ∷ []) - room ≡ 0 = grind (arith, nat_tests, length-append ws (w ∷ [])) in
        rw n (rw e (omega (arith, sum_by_push (λ n. n) ws w)))
    by false is e =
        let n : length (ws ++ w ∷ []) - room ≡ 1 = grind (arith, nat_tests, length-append ws (w ∷ [])) in
        rw n (oldest (ws ++ w ∷ []) o e ∙ sum_by_push (λ n. n) ws w)

ends_dropped : (sent xs : List Item) (n : ℕ) → EndsWith sent xs → EndsWith sent (drop n xs)
ends_dropped sent xs n h =
    (h.0 ++ take n xs, h.1 ∙ ap (λ l. h.0 ++ l) (sym (take-append-drop n xs)) ∙ sym (append_assoc h.0 (take n xs) (drop n xs)))

ends_more : (sent xs : List Item) (x : Item) → EndsWith sent xs → EndsWith (sent ++ x ∷ []) (xs ++ x ∷ [])
ends_more sent xs x h = (h.0, ap (λ l. l ++ x ∷ []) h.1 ∙ append_assoc h.0 xs (x ∷ []))

-- weights are those of the last items, if they are those of the end of what was sent
of_end : (w : Weighing) (sent items : List Item) → EndsWith sent items → w.weights ≡ map (weight_of w.limit) items → IsOfLast w sent
of_end w sent items h e =
    let many : length w.weights ≡ length items = ap length e ∙ length-map items (weight_of w.limit) in
    let others : length (h.0 ++ items) - length items ≡ length h.0 = omega (arith, length-append h.0 items) in
    let last : keep_last (length items) (h.0 ++ items) ≡ items = ap (λ n. drop n (h.0 ++ items)) others ∙ drop-append_seam h.0 items in
    e ∙ ap (map (weight_of w.limit)) (sym (ap (λ n. keep_last n sent) many ∙ ap (keep_last (length items)) h.1 ∙ last))

ends_last : (sent : List Item) (n : ℕ) → EndsWith sent (keep_last n sent)
ends_last sent n = (take (length sent - n) sent, sym (take-append-drop (length sent - n) sent))

-- without some oldest weights
pub drops : (w : Weighing) (sent : List Item) (n : ℕ) → IsOfLast w sent → IsOfLast (record w { weights = drop n w.weights }) sent
drops w sent n h =
    let items : List Item = keep_last (length w.weights) sent in
    of_end (record w { weights = drop n w.weights }) sent (drop n items) (ends_dropped sent items n (ends_last sent (length w.weights))) (ap (drop n) h ∙ drop-map (weight_of w.limit) n items)

-- with the weight of an item that was sent
pub keeps : (w : Weighing) (sent : List Item) (x : Item) → IsOfLast w sent → IsOfLast (record w { weights = keep_last w.room (w.weights ++ weight_of w.limit x ∷ []) }) (sent ++ x ∷ [])
keeps w sent x h =
    let f : Item → ℕ = weight_of w.limit in
    let items : List Item = keep_last (length w.weights) sent in
    let n : ℕ = length (w.weights ++ f x ∷ []) - w.room in
    let all : w.weights ++ f x ∷ [] ≡ map f (items ++ x ∷ []) = ap (λ l. l ++ f x ∷ []) h ∙ sym (map-append f items (x ∷ [])) in
    of_end (record w { weights = drop n (w.weights ++ f x ∷ []) }) (sent ++ x ∷ []) (drop n (items ++ x ∷ [])) (ends_dropped (sent ++ x ∷ []) (items ++ x ∷ []) n (ends_more sent items x (ends_last sent (length w.weights)))) (ap (drop n) all ∙ drop-map f n (items ++ x ∷ []))

-- if the weights reach the limit, the items do
pub heavy : (w : Weighing) (capacity : ℕ) (sent : List Item) → w.room ≡ capacity → length w.weights ≤ w.room → IsOfLast w sent → w.limit ≤ sum w.weights → WasHeavy (Some w.limit) capacity sent
heavy w capacity sent room within h full =
    let f : Item → ℕ = weight_of w.limit in
    let items : List Item = keep_last (length w.weights) sent in
    let many : length w.weights ≡ length items = ap length h ∙ length-map items f in
    let sums : sum w.weights ≡ sum_by f items = ap sum h ∙ sum-map f items in
    let less : sum_by f items ≤ sum_by item_memory items = sum_by-le-sum_by f item_memory items (λ x. omega arith) in
    (items, omega arith, ends_last sent (length w.weights), omega arith)

-- the same of a post that may have no limit
pub weighed_drops : (o p : Option Weighing) (capacity : ℕ) (sent : List Item) → IsWeighed o capacity sent → Drops o p → IsWeighed p capacity sent
weighed_drops None p capacity sent h d = λ x e. absurd (let no : None ≡ Some x = sym d ∙ e in cc)
weighed_drops (Some w) p capacity sent h d = λ x e.
    let same : record w { weights = drop d.0 w.weights } ≡ x = cc (d.1, e) in
    let mine = h w refl in
    subst (λ (u : Weighing). (u.room ≡ capacity) × IsOfLast u sent) same (mine.0, drops w sent d.0 mine.1)

pub weighed_keeps : (o : Option Weighing) (capacity : ℕ) (sent : List Item) (x : Item) → IsWeighed o capacity sent → IsWeighed (with_bytes o (item_memory x)) capacity (sent ++ x ∷ [])
weighed_keeps None capacity sent x h = λ y e. absurd (let no : None ≡ Some y = e in cc)
weighed_keeps (Some w) capacity sent x h = λ y e.
    let same : record w { weights = keep_last w.room (w.weights ++ weight_of w.limit x ∷ []) } ≡ y = cc in
    let mine = h w refl in
    subst (λ (u : Weighing). (u.room ≡ capacity) × IsOfLast u (sent ++ x ∷ [])) same (mine.0, keeps w sent x mine.1)

-- the bytes of an item are known up to the greatest number, which is above each limit
pub bytes_kept : (o : Option Weighing) (bytes memory : ℕ) → IfSome o AreWithin → bytes ≡ min memory 18446744073709551615 → with_bytes o bytes ≡ with_bytes o memory
bytes_kept None bytes memory within is = refl
bytes_kept (Some w) bytes memory within is =
    let least : min bytes w.limit ≡ min memory w.limit = omega (arith, within.0) in
    ap (λ n. Some (record w { weights = keep_last w.room (w.weights ++ n ∷ []) })) least

-- a post with weights that make its channel full was heavy
pub heavy_now : (o p : Option Weighing) (capacity : ℕ) (sent : List Item) → IsWeighed o capacity sent → Drops o p → IfSome p AreWithin → is_heavy p ≡ true → WasHeavy (option_map (λ w. w.limit) o) capacity sent
heavy_now None None capacity sent h d within full = cc
heavy_now None (Some v) capacity sent h d within full = cc
heavy_now (Some w) None capacity sent h d within full = cc
heavy_now (Some w) (Some v) capacity sent h d within full =
    let same : v ≡ record w { weights = drop d.0 w.weights } = cc (d.1) in
    let mine = h w refl in
    let limit : v.limit ≡ w.limit = ap (λ (u : Weighing). u.limit) same in
    let kept : (v.room ≡ capacity) × IsOfLast v sent = subst (λ (u : Weighing). (u.room ≡ capacity) × IsOfLast u sent) (sym same) (mine.0, drops w sent d.0 mine.1) in
    let all : v.limit ≤ sum v.weights = grind (arith, nat_tests) in
    subst (λ m. WasHeavy (Some m) capacity sent) limit (heavy v capacity sent kept.0 within.1 kept.1 all)
