-- A journal that isn't full, with one entry more.
use Rattle.std.proofs.Common.{◌≡◌, ◌≤◌, ◌<◌, ℕ, ◌+◌, List, [], ◌∷◌, ◌++◌, Bool, true, false, refl, arith, length}
use Rattle.std.specs.Prelude.{◌==◌, ◌||◌, nat_le}
use Rattle.std.proofs.lemmas.Bool.Decides.{nat_tests}
use Rattle.tab_model.specs.declared.data.Entry.{Entry}
use Rattle.tab_model.specs.declared.data.Entry.TheVariants.{Committed, Changed, Subscribed, Unsubscribed}
use Rattle.tab_journal.specs.Journals.{full_weight, weight_of, weight_in, bytes_of, bytes_in}

weight_behind : (es : List Entry) (e : Entry) → weight_in (es ++ e ∷ []) ≡ weight_in es + weight_of e
weight_behind [] e = omega arith
weight_behind (x ∷ es) e = let ih = weight_behind es e in omega (arith, ih)

length_behind : (es : List Entry) (e : Entry) → length (es ++ e ∷ []) ≡ length es + 1
length_behind [] e = refl
length_behind (x ∷ es) e = let ih = length_behind es e in omega (arith, ih)

bounded : (e : Entry) → weight_of e ≤ full_weight
bounded (Committed n s age xs rs over) = omega arith
bounded (Changed c over) = omega arith
bounded (Subscribed s t l dump) = omega arith
bounded (Unsubscribed s t) = omega arith

bytes_behind : (most : ℕ) (es : List Entry) (e : Entry) → bytes_in most (es ++ e ∷ []) ≡ bytes_in most es + bytes_of most e
bytes_behind most [] e = omega arith
bytes_behind most (x ∷ es) e = let ih = bytes_behind most es e in omega (arith, ih)

-- what a journal that isn't full has left
left : (entries limit weight bytes most : ℕ) → ((entries == limit) || (nat_le full_weight weight || nat_le most bytes)) ≡ false → (entries ≡ limit → ⊥) × (weight < full_weight) × (bytes < most)
left entries limit weight bytes most h = by (entries == limit) (nat_le full_weight weight) (nat_le most bytes) refl refl refl h
  where
    by : (x y z : Bool) → (entries == limit) ≡ x → nat_le full_weight weight ≡ y → nat_le most bytes ≡ z → (x || (y || z)) ≡ false
        → (entries ≡ limit → ⊥) × (weight < full_weight) × (bytes < most)
    by true y z e f g h = cc
    by false true z e f g h = cc
    by false false true e f g h = cc
    by false false false e f g h = (grind (arith, nat_tests), grind (arith, nat_tests), grind (arith, nat_tests))

pub one_more : (es : List Entry) (e : Entry) (limit most m n b c : ℕ) → length es ≤ limit → m ≡ weight_in es → n ≡ weight_of e → b ≡ bytes_in most es → c ≡ bytes_of most e
    → ((length es == limit) || (nat_le full_weight (weight_in es) || nat_le most (bytes_in most es))) ≡ false
    → (length (es ++ e ∷ []) ≤ limit) × (m + n ≡ weight_in (es ++ e ∷ [])) × (m + n ≤ full_weight + full_weight) × (b + c ≡ bytes_in most (es ++ e ∷ [])) × (b + c ≤ most + most)
one_more es e limit most m n b c within is counted sum summed vacant =
    let lengths = length_behind es e in
    let weight = weight_behind es e in
    let bytes = bytes_behind most es e in
    let few = bounded e in
    let room = left (length es) limit (weight_in es) (bytes_in most es) most vacant in (
      omega (arith, lengths, within, room.0),
      omega (arith, weight, is, counted),
      omega (arith, is, counted, few, room.1),
      omega (arith, bytes, sum, summed),
      omega (arith, sum, summed, room.2),
    )
