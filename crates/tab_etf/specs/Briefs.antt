-- Terms of a few words and numbers, and bytes that are added to a vector with room for them.
use Rattle.std.specs.Prelude.{◌≡◌, ℕ, pos, ◌+◌, ◌<◌, ◌≤◌, List, ◌++◌, length, vec_len, vec_capacity}
use Rattle.std.specs.Global.{Vec}
use Rattle.tab_term.specs.Data.{PlainTerm, int, atom, pair}
use Rattle.tab_etf.specs.declared.brief.Token.{Token}
use Rattle.tab_etf.specs.declared.brief.Token.TheVariants as token
use Rattle.tab_etf.specs.declared.brief.Brief.{Brief}
use Rattle.tab_etf.specs.declared.brief.Brief.TheVariants as brief

-- an atom of this text, or an integer
abbrev pub token_term : Token → PlainTerm
token_term (token.Word text) = atom text.now
token_term (token.Number n) = int (pos n)

-- the one by itself, or the pair
abbrev pub brief_term : Brief → PlainTerm
brief_term (brief.One a) = token_term a
brief_term (brief.Two a b) = pair (token_term a) (token_term b)

-- a word's length has one byte
abbrev pub IsShortToken : Token → Type 0
IsShortToken (token.Word text) = length text.now < 256
IsShortToken (token.Number n) = Unit {0}

-- the length of each word has one byte
abbrev pub IsShortBrief : Brief → Type 0
IsShortBrief (brief.One a) = IsShortToken a
IsShortBrief (brief.Two a b) = IsShortToken a × IsShortToken b

-- there is room for these bytes
abbrev pub HasRoom : Vec ℕ → List ℕ → Type 0
HasRoom v bytes = vec_len v + length bytes ≤ vec_capacity v

-- these bytes are added, and there is as much room as before beside them
pub record AddsInPlace (old new : Vec ℕ) (bytes : List ℕ) : Type 0 where
  pub items : new.items ≡ old.items ++ bytes
  pub len : vec_len new ≡ vec_len old + length bytes
  pub capacity : vec_capacity old ≤ vec_capacity new
