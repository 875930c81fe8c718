-- What the head of a request over HTTP asks. The grammar of a head is RFC 9112's, in the definitions of httparse.
use Rattle.std.specs.Prelude.{◌≡◌, ◌≢◌, ◌==◌, ◌++◌, ℕ, List, [], ◌∷◌, Bool, true, codes}
use Rattle.httparse.specs.Grammar.{RequestHead, ReadsRequest}
use Rattle.httparse.specs.Spans.{RequestOverflows}
use Rattle.tab_metrics.specs.declared.requests.Page.{Page}
use Rattle.tab_metrics.specs.declared.requests.Page.TheVariants.{Meters, Sessions}
use Rattle.tab_metrics.specs.declared.requests.Request.{Request}
use Rattle.tab_metrics.specs.declared.requests.Request.TheVariants.{Get, Head, Elsewhere, Otherwise, Wrong}

-- a query, which begins with a question mark, or nothing
abbrev pub is_query : List ℕ → Bool
is_query [] = true
is_query (c ∷ rest) = c == 63

-- a target that has this path, with any query or none
abbrev pub Names : List ℕ → List ℕ → Type 0
Names path target = (rest : List ℕ) × (target ≡ path ++ rest) × (is_query rest ≡ true)

-- a target that names a page
abbrev pub NamesPage : Page → List ℕ → Type 0
NamesPage Meters target = Names (codes "/metrics") target
NamesPage Sessions target = Names (codes "/sessions") target

-- a target that names none
abbrev pub NamesNone : List ℕ → Type 0
NamesNone target = (p : Page) → NamesPage p target → ⊥

-- whether a head asks this: a page by GET, and its head by HEAD
abbrev pub Asks : RequestHead → Request → Type 0
Asks h (Get p) = NamesPage p h.target × (h.method ≡ codes "GET")
Asks h (Head p) = NamesPage p h.target × (h.method ≡ codes "HEAD")
Asks h Elsewhere = NamesNone h.target
Asks h Otherwise = ((p : Page) × NamesPage p h.target) × (h.method ≢ codes "GET") × (h.method ≢ codes "HEAD")
Asks h _ = ⊥

-- whether this is asked by a head at the beginning of these bytes; Wrong is one that can't come to a head of 64 fields or fewer
abbrev pub IsAskedIn : List ℕ → Request → Type 0
IsAskedIn bytes Wrong = RequestOverflows 64 bytes
IsAskedIn bytes r = (h : RequestHead) × (rest : List ℕ) × ReadsRequest bytes h rest × Asks h r
