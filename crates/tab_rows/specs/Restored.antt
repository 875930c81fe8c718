-- Records that are put back in the place of those of their key.
use Rattle.std.specs.Prelude.{◌≡◌, ◌≢◌, List, [], ◌++◌, true, Option, None, Some}
use Rattle.std.specs.List.{filter, list_all}
use Rattle.tab_term.specs.Data.{PlainTerm}
use Rattle.tab_lists.specs.ByKey.{Entry}
use Rattle.tab_model.specs.Names.{less, terms_list}
use Rattle.tab_model.specs.Tables.{key, has_key}

-- the rows with these records in the place of those of the key: after those of lesser keys, before those of greater ones
abbrev pub restored : List PlainTerm → PlainTerm → List PlainTerm → List PlainTerm
restored rows k before = filter (λ r. less (key r) k) rows ++ before ++ filter (λ r. less k (key r)) rows

-- an entry with records, all of this key; its own key is not looked at
pub record HasRecordsOf (k : PlainTerm) (e : Entry) : Type 0 where
  pub keyed : list_all (has_key k) (terms_list e.1) ≡ true
  pub filled : terms_list e.1 ≢ []

-- the records of an entry, and none for no entry
abbrev pub records_of : Option Entry → List PlainTerm
records_of None = []
records_of (Some e) = terms_list e.1
