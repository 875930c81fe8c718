-- A dump has all records of its table.
use Rattle.std.proofs.Common.{◌≡◌, ℕ, List, sym, ap, ◌∙◌, Some}
use Rattle.std.specs.Prelude.{Bool, true}
use Rattle.tab_term.specs.Data.{PlainTerms}
use Rattle.tab_model.specs.Names.{plain_terms}
use Rattle.tab_model.specs.Slices.{dump_of}
use Rattle.tab_model.specs.Catalogs.{Table, Catalog, find, rows_in}

pub dumped : (w : Catalog) (name : List ℕ) (dump : Bool) (table : Table) (found : PlainTerms) → dump ≡ true → find w name ≡ Some table → found ≡ plain_terms table.rows → Some found ≡ dump_of w name dump
dumped w name dump table found asked there h = ap Some (h ∙ ap plain_terms (ap rows_in (sym there))) ∙ ap (dump_of w name) (sym asked)
