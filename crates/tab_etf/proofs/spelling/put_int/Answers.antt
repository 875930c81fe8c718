use Rattle.std.proofs.Common.{◌≡◌, sym, ap, ◌∙◌, ◌∷◌, [], ℕ, true, false, unsigned_abs}
use Rattle.std.specs.Int.{w32, w128, to_be_bytes, cast_unsigned}
use Rattle.std.proofs.lemmas.Int.{to_z-of_z}
use Rattle.tab_term.specs.Canon.{is_byte, fits_four}
use Rattle.tab_etf.proofs.WritingLemmas.{writes_as}
use Rattle.tab_etf.proofs.CanonLemmas.{int_one, int_four, int_big, big_bytes}
use Rattle.tab_etf.proofs.spelling.put_int.Goals as goal

pub returns-then-is_byte : goal.returns-then-is_byte
returns-then-is_byte g c =
    let e = to_z-of_z w128 c.args.z c.ranges.z in
    let yes : is_byte c.args.z ≡ true = ap is_byte (sym e) ∙ sym c.is_byte.ensures ∙ c.if-is_byte.true in
    writes_as c.put_two.ensures (ap (λ (n : ℕ). 97 ∷ n ∷ []) (c.one_byte.ensures ∙ ap unsigned_abs e) ∙ sym (int_one c.args.z yes))

pub returns-then-fits_four : goal.returns-then-fits_four
returns-then-fits_four g c =
    let e = to_z-of_z w128 c.args.z c.ranges.z in
    let no : is_byte c.args.z ≡ false = ap is_byte (sym e) ∙ sym c.is_byte.ensures ∙ c.if-is_byte.false in
    let yes : fits_four c.args.z ≡ true = ap fits_four (sym e) ∙ sym c.fits_four.ensures ∙ c.if-fits_four.true in
    writes_as c.put_four.ensures
    (ap (λ n. 98 ∷ to_be_bytes w32 n) (c.four_bytes_of.ensures ∙ ap (cast_unsigned w32) e) ∙ sym (int_four c.args.z no yes))

pub returns-else-fits_four : goal.returns-else-fits_four
returns-else-fits_four g c =
    let e = to_z-of_z w128 c.args.z c.ranges.z in
    let no : is_byte c.args.z ≡ false = ap is_byte (sym e) ∙ sym c.is_byte.ensures ∙ c.if-is_byte.false in
    let neither : fits_four c.args.z ≡ false = ap fits_four (sym e) ∙ sym c.fits_four.ensures ∙ c.if-fits_four.false in
    writes_as c.put_big.ensures (ap big_bytes e ∙ sym (int_big c.args.z no neither))
