-- Tuples that are taken apart have the wanted number of elements.
use Rattle.std.proofs.Common.{◌≡◌, ◌≢◌, false, refl}
use Rattle.tab_term.specs.Data.{atom, tuple, PlainTerms, none, one_more, count}
use Rattle.tab_proto.specs.Reading.{is_call_term, is_pair}

pub not_pair : (ts : PlainTerms) → count ts ≢ 2 → is_pair (tuple ts) ≡ false
not_pair (one_more x (one_more y none)) h = absurd (h refl)
not_pair ts h = refl

pub not_call : (ts : PlainTerms) → count ts ≢ 2 → count ts ≢ 3 → count ts ≢ 4 → is_call_term (tuple ts) ≡ false
not_call (one_more (atom w) (one_more x none)) h k l = absurd (h refl)
not_call (one_more (atom w) (one_more x (one_more y none))) h k l = absurd (k refl)
not_call (one_more (atom w) (one_more x (one_more y (one_more z none)))) h k l = absurd (l refl)
not_call ts h k l = refl
