-- Items and overflows that are sent, one after another.
use Rattle.std.specs.Io.KnownBytes.{Appends, append_known}
use Rattle.std.proofs.lemmas.List.{length-append}
use Rattle.std.proofs.lemmas.List.Sums.{sum_by-append}
use Rattle.std.specs.Prelude.{IfSome, sum_by}
use Rattle.std.proofs.Common.{◌≡◌, ◌⊎◌, ◌+◌, ◌<◌, arith, length, min, Bool, Option, None, Some, inl, inr, ℕ, List, [], ◌∷◌, ◌++◌, refl, sym, ap, ◌∙◌, append_assoc, append-nil, subst}
use Rattle.tab_term.specs.Canon.{canon}
use Rattle.tab_etf.specs.Frames.{frame}
use Rattle.tab_model.specs.Bytes.{item_memory}
use Rattle.tab_model.specs.declared.data.Item.{Item}
use Rattle.tab_model.specs.declared.data.Reply.TheVariants as reply
use Rattle.tab_proto.specs.declared.events.Delivery.{Delivery}
use Rattle.tab_proto.specs.Events.{sent_frames}
use Rattle.tab_proto.specs.Replies.{reply_term}
use Rattle.tab_post.specs.Rooms.{IsAfter, IsBelow, IsBelowSince}
use Rattle.tab_post.specs.declared.room.Load.{Load}
use Rattle.tab_post.specs.declared.room.Room.{Room}
use Rattle.tab_book.specs.declared.step.Drained.TheVariants.{Overflow}
use Rattle.tab_book.specs.Inboxes.{IsDrained}
use Rattle.tab_server.specs.Forwarded.{Part, part_frames, Come, Forwards, NothingLeft}
use Rattle.tab_server.specs.Laws.{goes_none, goes_then}
use Rattle.tab_server.specs.Sending.{Goes}

pub frames_then : (d : Delivery) (ps qs : List Part) → part_frames d (ps ++ qs) ≡ part_frames d ps ++ part_frames d qs
frames_then d [] qs = refl
frames_then d (inl x ∷ ps) qs = ap (λ r. sent_frames d x ++ r) (frames_then d ps qs) ∙ sym (append_assoc (sent_frames d x) (part_frames d ps) (part_frames d qs))
frames_then d (inr c ∷ ps) qs =
    let bytes = frame (131 ∷ canon (reply_term (reply.Overflow c))) in
    ap (λ r. bytes ++ r) (frames_then d ps qs) ∙ sym (append_assoc bytes (part_frames d ps) (part_frames d qs))

module _ (n : ℕ) (d : Delivery) (m : ℕ) where
  come_then : (a b c : List Item) (ps qs : List Part) → Come n m a ps b → Come n m b qs c → Come n m a (ps ++ qs) c
  come_then a b c [] qs h k = subst (λ xs. Come n m xs qs c) h k
  come_then a b c (inl x ∷ ps) qs h k = come_then (a ++ x ∷ []) b c ps qs h k
  come_then a b c (inr o ∷ ps) qs h k = (h.0, come_then a b c ps qs h.1 k)

  -- nothing
  pub forwards_none : (before after : List Item) → after ≡ before → Forwards n d m before after []
  forwards_none before after same = record { parts = []; come = same; frames_are = refl }

  -- one item
  pub forwards_item : (before after : List Item) (x : Item) → after ≡ before ++ x ∷ [] → Forwards n d m before after (sent_frames d x)
  forwards_item before after x taken = record { parts = inl x ∷ []; come = taken; frames_are = sym (append-nil (sent_frames d x)) }

  -- one overflow
  pub forwards_overflow : (before after : List Item) (c : ℕ) → after ≡ before → IsDrained n m before (Overflow c) after
      → Forwards n d m before after (frame (131 ∷ canon (reply_term (reply.Overflow c))))
  forwards_overflow before after c same is = record {
    parts = inr c ∷ [];
    come = (subst (λ xs. IsDrained n m before (Overflow c) xs) same is, same);
    frames_are = sym (append-nil (frame (131 ∷ canon (reply_term (reply.Overflow c)))));
  }

  -- some, and then others
  pub forwards_then : (a b c : List Item) (bytes more : List ℕ) → Forwards n d m a b bytes → Forwards n d m b c more → Forwards n d m a c (bytes ++ more)
  forwards_then a b c bytes more h k = record {
    parts = h.parts ++ k.parts;
    come = come_then a b c h.parts k.parts h.come k.come;
    frames_are = ap (λ r. r ++ more) h.frames_are ∙ ap (λ r. part_frames d h.parts ++ r) k.frames_are ∙ sym (frames_then d h.parts k.parts);
  }

-- some frames are kept
pub goes_kept : {O : Type 0} (sent : O → Option (List ℕ)) (broken : O → Bool) (o : O) (x y bytes : List ℕ) → y ≡ x ++ bytes → Goes sent broken o x o y bytes
goes_kept {O} sent broken o x y bytes e whole = (whole, more (sent o))
  where
    more : (a : Option (List ℕ)) → Appends (append_known a x) (append_known a y) bytes
    more None = tt
    more (Some w) = ap (λ r. w ++ r) e ∙ sym (append_assoc w x bytes)

module _ {O : Type 0} (sent : O → Option (List ℕ)) (broken : O → Bool) (n : ℕ) (d : Delivery) (m : ℕ) where
  -- what was received is sent or kept
  abbrev pub Passes : List Item → O → List ℕ → List Item → O → List ℕ → Type 0
  Passes before a x after b y = (bytes : List ℕ) × Forwards n d m before after bytes × Goes sent broken a x b y bytes

  pub passes_none : (before : List Item) (a : O) (x : List ℕ) → Passes before a x before a x
  passes_none before a x = ([], forwards_none n d m before before refl, goes_none sent broken a x)

  pub passes_item : (before after : List Item) (a b : O) (x y : List ℕ) (i : Item) → after ≡ before ++ i ∷ [] → Goes sent broken a x b y (sent_frames d i) → Passes before a x after b y
  passes_item before after a b x y i taken goes = (sent_frames d i, forwards_item n d m before after i taken, goes)

  pub passes_overflow : (before after : List Item) (a : O) (x y : List ℕ) (c : ℕ) → after ≡ before → IsDrained n m before (Overflow c) after
      → Goes sent broken a x a y (frame (131 ∷ canon (reply_term (reply.Overflow c)))) → Passes before a x after a y
  passes_overflow before after a x y c same is goes = (frame (131 ∷ canon (reply_term (reply.Overflow c))), forwards_overflow n d m before after c same is, goes)

  pub passes_kept : (before after : List Item) (a b : O) (x y : List ℕ) → after ≡ before → Goes sent broken a x b y [] → Passes before a x after b y
  passes_kept before after a b x y same goes = ([], forwards_none n d m before after same, goes)

  pub passes_then : (r s t : List Item) (a b c : O) (x y z : List ℕ) → Passes r a x s b y → Passes s b y t c z → Passes r a x t c z
  passes_then r s t a b c x y z h k =
      (h.0 ++ k.0, forwards_then n d m r s t h.0 k.0 h.1 k.1, goes_then sent broken a b c x y z h.0 k.0 h.2 k.2)

-- the same for an equal session, delivery and mailbox
pub passes_at : {O : Type 0} (sent : O → Option (List ℕ)) (broken : O → Bool) (n k : ℕ) (d e : Delivery) (m l : ℕ) (before : List Item) (a : O) (x : List ℕ) (after : List Item) (b : O) (y : List ℕ)
    → k ≡ n → e ≡ d → l ≡ m → Passes sent broken k e l before a x after b y → Passes sent broken n d m before a x after b y
passes_at {O} sent broken n k d e m l before a x after b y sn sd sm h =
    (h.0, subst (λ i. Forwards n d i before after h.0) sm (subst (λ i. Forwards n i l before after h.0) sd (subst (λ i. Forwards i e l before after h.0) sn h.1)), h.2)

-- ---- how much came

pub after_none : (t : Load) (xs : List Item) → IsAfter t xs xs t
after_none t xs = ((λ _. omega arith), λ _. omega arith)

pub after_one : (first old new : List Item) (i : Item) (t count next : Load) → new ≡ old ++ i ∷ [] → IsAfter t first old count
    → next.items ≡ min (count.items + 1) 18446744073709551615 → next.bytes ≡ min (count.bytes + item_memory i) 18446744073709551615 → IsAfter t first new next
after_one first old new i t count next taken so items bytes =
    let more : length new ≡ length old + 1 = ap length taken ∙ length-append old (i ∷ []) in
    let heavier : sum_by item_memory new ≡ sum_by item_memory old + sum_by item_memory (i ∷ []) = ap (sum_by item_memory) taken ∙ sum_by-append item_memory old (i ∷ []) in (
      (λ less. let small : count.items < 18446744073709551615 = omega (arith, items, less) in let before = so.0 small in omega (arith, items, less, more, before)),
      λ less. let small : count.bytes < 18446744073709551615 = omega (arith, bytes, less) in let before = so.1 small in omega (arith, bytes, less, heavier, before),
    )

pub nothing_at : (n k m l : ℕ) (xs ys : List Item) → k ≡ n → l ≡ m → xs ≡ ys → NothingLeft k l xs → NothingLeft n m ys
nothing_at n k m l xs ys sn sm sx h =
    subst (λ zs. NothingLeft n m zs) sx (subst (λ i. NothingLeft n i xs) sm (subst (λ i. NothingLeft i l xs) sn h))

-- the bytes that came are below the limit, if there is one
light : (first old new : List Item) (t came : Load) (most : Option ℕ) → IsAfter t first old came → new ≡ old → IfSome most (λ m. (came.bytes < m) × (came.bytes < 18446744073709551615))
    → IfSome most (λ m. t.bytes + sum_by item_memory new < sum_by item_memory first + m)
light first old new t came None so e h = tt
light first old new t came (Some m) so e h =
    let before = so.1 h.1 in
    let sums = ap (sum_by item_memory) e in
    omega (arith, h.0, before, sums)

-- nothing is left, or what came makes no mailbox full
pub ended : (n k m l : ℕ) (first old new : List Item) (t came : Load) (room room' : Room) → k ≡ n → l ≡ m → IsAfter t first old came → room' ≡ room
    → (P : Type 0) → (mid : List Item) → (P → mid ≡ old) → NothingLeft k l mid ⊎ IsBelow room' came × P → new ≡ mid
    → NothingLeft n m new ⊎ IsBelowSince room t first new
ended n k m l first old new t came room room' sn sm so sr P mid same (inl none) e = inl (nothing_at n k m l mid new sn sm (sym e) none)
ended n k m l first old new t came room room' sn sm so sr P mid same (inr (below, p)) e =
    let before = so.0 below.1 in
    let count = ap length (e ∙ same p) in
    let few = below.0 in
    let rooms = ap (λ (r : Room). r.items) sr in
    inr (omega (arith, few, before, count, rooms), subst (λ (r : Room). IfSome r.bytes (λ m. t.bytes + sum_by item_memory new < sum_by item_memory first + m)) sr (light first old new t came room'.bytes so (e ∙ same p) below.2))
