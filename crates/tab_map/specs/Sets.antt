-- What the forms of a set hold, and what is left of a walk over them.
use Rattle.std.specs.Prelude.{List, [], ◌∷◌, None, Some}
use Rattle.tab_map.specs.KeyList.{keys}
use Rattle.tab_map.specs.declared.set.Form.{Form}
use Rattle.tab_map.specs.declared.set.Form.TheVariants as form
use Rattle.tab_map.specs.declared.set.Left.{Left}
use Rattle.tab_map.specs.declared.set.Left.TheVariants as left

-- the entries of a set, whose values say nothing
abbrev pub held : {K : Type 0} → Form K → List (K × Unit {0})
held (form.One e) = e ∷ []
held (form.Many m) = m

-- the keys that are left of a walk over a set
abbrev pub keys_left : {K : Type 0} → Left K → List K
keys_left (left.One None) = []
keys_left (left.One (Some k)) = k.now ∷ []
keys_left (left.Many es) = keys es
