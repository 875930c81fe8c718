-- The measure of a list (this project's own): what is written before its elements, and how long they are.
use Rattle.std.specs.Prelude.{◌≡◌, ◌-◌, ◌^◌, min, length}
use Rattle.tab_term.specs.Canon.{canons, list_tag}
use Rattle.tab_term.specs.Data.{PlainTerms, count}
use Rattle.tab_etf.specs.declared.shared.Measure.{Measure}

-- it is that of these elements; a count or a length that no number holds is the greatest
pub record IsMeasure (m : Measure) (ts : PlainTerms) : Type 0 where
  pub tag : m.tag ≡ list_tag ts
  pub count : m.count ≡ min (count ts) (2 ^ 64 - 1)
  pub len : m.len ≡ min (length (canons ts)) (2 ^ 64 - 1)
