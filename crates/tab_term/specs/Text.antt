-- The text of an atom.
use Rattle.std.specs.Prelude.{ℕ, List}
use Rattle.tab_term.specs.declared.text.Text.{Text}
use Rattle.tab_term.specs.declared.text.Text.TheVariants.{Short, Long}

-- the bytes of a text, wherever they lie
abbrev pub text_bytes : Text → List ℕ
text_bytes (Short text) = text
text_bytes (Long text) = text
