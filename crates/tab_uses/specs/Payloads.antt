-- A payload that is written anew, canonically.
use Rattle.std.specs.Prelude.{◌≡◌, ℕ, ◌<◌, ◌≤◌, List, ◌∷◌, ◌++◌, length, Ok}
use Rattle.tab_term.specs.Canon.{canon}
use Rattle.tab_term.specs.Data.{PlainTerm, depth}
use Rattle.tab_etf.specs.Reading.{whole, FailsAt}
use Rattle.tab_etf.specs.Spells.{Spells}
use Rattle.tab_etf.specs.declared.encoding.EncodeFault.TheVariants.{TooLong, NoMemory}
use Rattle.tab_uses.specs.declared.payloads.PayloadFault.{PayloadFault}
use Rattle.tab_uses.specs.declared.payloads.PayloadFault.TheVariants.{Decode, Encode}

-- the payload is a term of 64 levels at most, and its canonical payload stands behind the bytes that were there
pub record AppendsCanonical (payload old new : List ℕ) : Type 0 where
  pub value : PlainTerm
  pub spelling : List ℕ
  pub version : payload ≡ 131 ∷ spelling
  pub spells : Spells value spelling
  pub levels : depth value ≤ 64
  pub appended : new ≡ old ++ 131 ∷ canon value

-- the payload's first fault, at its place; or it is a term, whose canonical payload is too long; of memory nothing is said
abbrev pub IsFaultOf : List ℕ → PayloadFault → Type 0
IsFaultOf payload (Decode e) = FailsAt (length payload) e (whole payload)
IsFaultOf payload (Encode TooLong) = (t : PlainTerm) × (whole payload ≡ Ok t) × (4294967295 < length (131 ∷ canon t))
IsFaultOf payload (Encode NoMemory) = Unit {0}
