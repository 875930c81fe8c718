-- An event of a table that no one watches is in no batch.
use Rattle.std.proofs.Common.{◌≡◌, ℕ, ◌+◌, ◌<◌, ◌≤◌, List, [], ◌∷◌, ◌++◌, append_assoc, append-nil, drop, get_or, add-one, drop-cons, length, Bool, true, false, refl, sym, ap, ◌∙◌, Option, Some, None}
use Rattle.std.specs.Prelude.{if◌then◌else◌, is_some, map}
use Rattle.std.specs.List.{AllByRecursion, cons_option, filter, filter_map}
use Rattle.std.proofs.lemmas.Bool.{or_parts}
use Rattle.std.proofs.lemmas.List.{drop_all}
use Rattle.tab_model.specs.declared.data.Change.{Change}
use Rattle.tab_model.specs.declared.data.Event.{Event}
use Rattle.tab_model.specs.declared.data.Level.{Level}
use Rattle.tab_model.specs.Events.{events, event_of, change_all}
use Rattle.tab_model.specs.Operations.{table_of_change, change_catalog}
use Rattle.tab_model.specs.Slices.{batch_for, as_batch, shape_at}
use Rattle.tab_model.specs.State.{level_in}
use Rattle.tab_model.specs.Catalogs.{Catalog}
use Rattle.tab_subs.specs.Subscribers.{has_watcher}
use Rattle.tab_core.specs.Joined.{Subscriber}
use Rattle.tab_core.specs.Owing.{is_watched, are_watched}

no_level : (l : Option Level) → is_some l ≡ false → l ≡ None
no_level None h = refl
no_level (Some x) h = cc

-- what no one watches
pub by_nobody : (bs : List Subscriber) (t : List ℕ) → has_watcher bs t ≡ false → AllByRecursion (λ (b : Subscriber). level_in b.watching t ≡ None) bs
by_nobody [] t h = tt
by_nobody (b ∷ bs) t h =
    let p = or_parts (is_some (level_in b.watching t)) (has_watcher bs t) h in
    (no_level (level_in b.watching t) p.0, by_nobody bs t p.1)

shaped_same : (f : List ℕ → Option Level) (p : Event → Bool) (es : List Event) → ((e : Event) → p e ≡ false → f e.tab ≡ None)
    → filter_map (λ (e : Event). shape_at (f e.tab) e) (filter p es) ≡ filter_map (λ (e : Event). shape_at (f e.tab) e) es
shaped_same f p [] h = refl
shaped_same f p (e ∷ es) h = by (p e) refl (shaped_same f p es h)
  where
    by : (b : Bool) → p e ≡ b → filter_map (λ (x : Event). shape_at (f x.tab) x) (filter p es) ≡ filter_map (λ (x : Event). shape_at (f x.tab) x) es
        → filter_map (λ (x : Event). shape_at (f x.tab) x) (if b then e ∷ filter p es else filter p es) ≡ cons_option (shape_at (f e.tab) e) (filter_map (λ (x : Event). shape_at (f x.tab) x) es)
    by true g ih = ap (cons_option (shape_at (f e.tab) e)) ih
    by false g ih = ih ∙ ap (λ o. cons_option (shape_at o e) (filter_map (λ (x : Event). shape_at (f x.tab) x) es)) (sym (h e g))

-- the batches of some events are those of all, where the others are watched by none
same_batches : (n : ℕ) (p : Event → Bool) (es : List Event) (cs : List Subscriber) → ((e : Event) → p e ≡ false → AllByRecursion (λ (b : Subscriber). level_in b.watching e.tab ≡ None) cs)
    → map (λ (b : Subscriber). batch_for (level_in b.watching) n (filter p es)) cs ≡ map (λ (b : Subscriber). batch_for (level_in b.watching) n es) cs
same_batches n p es [] h = refl
same_batches n p es (c ∷ cs) h = λ i. as_batch n (shaped_same (level_in c.watching) p es (λ e g. (h e g).0) i) ∷ same_batches n p es cs (λ e g. (h e g).1) i

pub batches_of_watched : (n : ℕ) (bs : List Subscriber) (es : List Event)
    → map (λ (b : Subscriber). batch_for (level_in b.watching) n (filter (is_watched bs) es)) bs ≡ map (λ (b : Subscriber). batch_for (level_in b.watching) n es) bs
batches_of_watched n bs es = same_batches n (is_watched bs) es bs (λ e g. by_nobody bs e.tab g)

-- where no change is watched, no event is
pub none_watched : (bs : List Subscriber) (w : Catalog) (age : ℕ) (cs : List Change) → are_watched bs cs ≡ false → filter (is_watched bs) (events w age cs) ≡ []
none_watched bs w age [] h = refl
none_watched bs w age (c ∷ cs) h =
    let p = or_parts (has_watcher bs (table_of_change c)) (are_watched bs cs) h in
    ap (λ b. if b then event_of w age c ∷ filter (is_watched bs) (events (change_catalog w c) age cs) else filter (is_watched bs) (events (change_catalog w c) age cs)) p.0
    ∙ none_watched bs (change_catalog w c) age cs p.1

-- nor is any batch due
pub no_batches : (n : ℕ) (bs : List Subscriber) (w : Catalog) (age : ℕ) (cs : List Change) → are_watched bs cs ≡ false → map (λ (b : Subscriber). batch_for (level_in b.watching) n (events w age cs)) bs ≡ map (λ (b : Subscriber). []) bs
no_batches n bs w age cs h = sym (batches_of_watched n bs (events w age cs)) ∙ ap (λ es. map (λ (b : Subscriber). batch_for (level_in b.watching) n es) bs) (none_watched bs w age cs h)

-- one event more is watched or not
pub events_go_on : (p : Event → Bool) (old : List Event) (e : Event) (es : List Event) → (old ++ filter p (e ∷ [])) ++ filter p es ≡ old ++ filter p (e ∷ es)
events_go_on p old e es = by (p e)
  where
    by : (b : Bool) → (old ++ (if b then e ∷ [] else [])) ++ filter p es ≡ old ++ (if b then e ∷ filter p es else filter p es)
    by true = append_assoc old (e ∷ []) (filter p es)
    by false = ap (λ xs. xs ++ filter p es) (append-nil old)

-- one pass over changes: what is still to be done of them makes of the tables and events so far those of all
abbrev pub Passes : Catalog → List Subscriber → ℕ → List Change → Catalog → List Event → List Change → Type 0
Passes w bs age cs now es rest = (change_all now rest ≡ change_all w cs) × (es ++ filter (is_watched bs) (events now age rest) ≡ filter (is_watched bs) (events w age cs))

pub pass_starts : (w now : Catalog) (bs : List Subscriber) (age : ℕ) (cs : List Change) (es : List Event) → now ≡ w → es ≡ [] → Passes w bs age cs now es cs
pass_starts w now bs age cs es same none = (ap (λ v. change_all v cs) same, λ i. none i ++ filter (is_watched bs) (events (same i) age cs))

pub pass_goes_on : (w now next : Catalog) (bs : List Subscriber) (age : ℕ) (cs : List Change) (i : ℕ) (c : Change) (old new : List Event) → i < length cs → c ≡ get_or cs i c → next ≡ change_catalog now c → new ≡ old ++ filter (is_watched bs) (event_of now age c ∷ [])
    → Passes w bs age cs now old (drop i cs) → Passes w bs age cs next new (drop (i + 1) cs)
pass_goes_on w now next bs age cs i c old new less here step told so_far = (
  ap (λ v. change_all v (drop (i + 1) cs)) step ∙ ap (change_all now) (sym rest) ∙ so_far.0,
  (λ j. told j ++ filter (is_watched bs) (events (step j) age (drop (i + 1) cs)))
      ∙ events_go_on (is_watched bs) old (event_of now age c) (events (change_catalog now c) age (drop (i + 1) cs))
      ∙ ap (λ ds. old ++ filter (is_watched bs) (events now age ds)) (sym rest) ∙ so_far.1,
)
  where
    first : drop i cs ≡ get_or cs i c ∷ drop (i + 1) cs
    first = rw (add-one, drop-cons cs i c) refl

    rest : drop i cs ≡ c ∷ drop (i + 1) cs
    rest = first ∙ ap (λ d. d ∷ drop (i + 1) cs) (sym here)

pub pass_ends : (w now tables : Catalog) (bs : List Subscriber) (age : ℕ) (cs : List Change) (i : ℕ) (es : List Event) → length cs ≤ i → tables ≡ now → Passes w bs age cs now es (drop i cs)
    → (tables ≡ change_all w cs) × (es ≡ filter (is_watched bs) (events w age cs))
pass_ends w now tables bs age cs i es done same so_far = (
  same ∙ ap (change_all now) (sym none) ∙ so_far.0,
  sym (append-nil es) ∙ ap (λ ds. es ++ filter (is_watched bs) (events now age ds)) (sym none) ∙ so_far.1,
)
  where
    none : drop i cs ≡ []
    none = drop_all i cs done
