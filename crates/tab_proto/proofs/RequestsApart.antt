-- A request is read back from its term, so two requests with one term are one.
use Rattle.std.proofs.Common.{◌≡◌, ℕ, zero, suc, ℤ, pos, List, [], ◌∷◌, ◌++◌, length, true, false, refl, sym, ap, ◌∙◌, append_assoc, arith, Option, Some}
use Rattle.std.specs.Prelude.{codes, if◌then◌else◌, nat_le}
use Rattle.std.specs.Str.{bytes_eq}
use Rattle.std.specs.List.{list_all}
use Rattle.std.proofs.lemmas.Bool.{and_parts}
use Rattle.tab_term.specs.Data.{PlainTerm, int, atom, tuple, list, PlainTerms, none, one_more, pair}
use Rattle.tab_term.specs.View.{term}
use Rattle.tab_term.specs.declared.term.Term.{Term}
use Rattle.tab_model.specs.declared.data.Operation.{Operation}
use Rattle.tab_model.specs.declared.data.Operation.TheVariants as op
use Rattle.tab_model.specs.declared.data.Schema.TheVariants as schema
use Rattle.tab_model.specs.declared.data.Level.{Level}
use Rattle.tab_model.specs.declared.data.Level.TheVariants.{Simple, Detailed}
use Rattle.tab_model.specs.declared.data.InfoItem.{InfoItem}
use Rattle.tab_model.specs.declared.data.InfoItem.TheVariants as item
use Rattle.tab_model.specs.declared.data.Part.{Part}
use Rattle.tab_model.specs.declared.data.Part.TheVariants as part
use Rattle.tab_model.specs.declared.data.Command.{Command}
use Rattle.tab_model.specs.declared.data.Command.TheVariants as command
use Rattle.tab_model.specs.Shapes.{term_value}
use Rattle.tab_model.proofs.ShapeLaws.{held_term}
use Rattle.tab_model.specs.declared.ask.Ask.TheVariants as ask
use Rattle.tab_proto.specs.declared.first_words.Unary.{Unary}
use Rattle.tab_proto.specs.declared.first_words.Unary.TheVariants as unary
use Rattle.tab_proto.specs.declared.first_words.Binary.{Binary}
use Rattle.tab_proto.specs.declared.first_words.Binary.TheVariants as binary
use Rattle.tab_proto.specs.FirstWords.{unary_in, binary_in}
use Rattle.tab_proto.specs.Commands.{term_of, abort_term, operation_term, level_word, item_word, with_first, enclosed, levels, outermost, is_command, is_nested, is_part}
use Rattle.tab_proto.specs.Requests.{Request, asked_term, request_term, number_in, IsRequest}

-- ---- what a term asks

abbrev name_back : PlainTerm → List ℕ
name_back (atom name) = name
name_back t = []

abbrev place_back : (List ℕ → Term → Operation) → PlainTerm → Operation
place_back f (tuple (one_more t (one_more k none))) = f (name_back t) (term_value k)
place_back f t = op.AllKeys []

abbrev unary_operation : Option Unary → PlainTerm → Operation
unary_operation (Some unary.Write) x = op.Write (term_value x)
unary_operation (Some unary.DeleteObject) x = op.DeleteObject (term_value x)
unary_operation (Some unary.MatchObject) x = op.MatchObject (term_value x)
unary_operation (Some unary.ReadForWrite) x = place_back op.ReadForWrite x
unary_operation (Some unary.Delete) x = place_back op.Delete x
unary_operation (Some unary.ReadLockTable) x = op.ReadLockTable (name_back x)
unary_operation (Some unary.WriteLockTable) x = op.WriteLockTable (name_back x)
unary_operation u x = op.AllKeys (name_back x)

abbrev operation_of : PlainTerm → Operation
operation_of (tuple (one_more (atom w) (one_more x none))) = unary_operation (unary_in w) x
operation_of (tuple (one_more (atom w) (one_more x (one_more y none)))) = op.Read (name_back x) (term_value y)
operation_of (tuple (one_more (atom w) (one_more x (one_more y (one_more z none))))) = op.IndexRead (name_back x) (term_value y) (term_value z)
operation_of t = op.AllKeys []

abbrev unary_parts : Option Unary → List Part → PlainTerm → List Part
unary_parts (Some unary.Abort) inner x = part.Abort (term_value x) ∷ []
unary_parts (Some unary.Transaction) inner x = part.Open ∷ (inner ++ part.Close ∷ [])
unary_parts u inner x = part.Do (unary_operation u x) ∷ []

abbrev mutual
  parts_of : PlainTerm → List Part
  parts_of (tuple (one_more (atom w) (one_more x none))) = unary_parts (unary_in w) (inner_parts x) x
  parts_of (tuple (one_more (atom w) (one_more x (one_more y none)))) = part.Do (op.Read (name_back x) (term_value y)) ∷ []
  parts_of (tuple (one_more (atom w) (one_more x (one_more y (one_more z none))))) = part.Do (op.IndexRead (name_back x) (term_value y) (term_value z)) ∷ []
  parts_of t = []

  inner_parts : PlainTerm → List Part
  inner_parts (list ts) = all_parts ts
  inner_parts t = []

  all_parts : PlainTerms → List Part
  all_parts none = []
  all_parts (one_more t ts) = parts_of t ++ all_parts ts

abbrev number_back : PlainTerm → ℕ
number_back (int (pos n)) = n
number_back t = 0

abbrev items_back : PlainTerm → PlainTerms
items_back (list ts) = ts
items_back t = none

abbrev level_back : PlainTerm → Level
level_back (atom w) = if bytes_eq w (codes "simple") then Simple else Detailed
level_back t = Simple

abbrev item_back : PlainTerm → InfoItem
item_back (atom w) =
    if bytes_eq w (codes "type") then item.Kind
    else (if bytes_eq w (codes "attributes") then item.Attributes
    else (if bytes_eq w (codes "index") then item.Index else item.Size))
item_back t = item.Size

abbrev watch_back : (List ℕ → Level → Command) → PlainTerm → Command
watch_back f (tuple (one_more w (one_more t (one_more l none)))) = f (name_back t) (level_back l)
watch_back f t = command.Begin

abbrev unary_back : Option Unary → PlainTerm → Command
unary_back (Some unary.Abort) x = command.Abort (term_value x)
unary_back (Some unary.DeleteTable) x = command.Schema (schema.Remove (name_back x))
unary_back (Some unary.Subscribe) x = watch_back (λ t l. command.Subscribe t l false) x
unary_back (Some unary.Unsubscribe) x = watch_back command.Unsubscribe x
unary_back u x = command.Do (unary_operation u x)

abbrev binary_back : Option Binary → PlainTerm → PlainTerm → Command
binary_back (Some binary.AddTableIndex) x y = command.Schema (schema.AddIndex (name_back x) (term_value y))
binary_back (Some binary.CreateTable) x y = command.Schema (schema.Create (name_back x) (items_back y))
binary_back (Some binary.DelTableIndex) x y = command.Schema (schema.DelIndex (name_back x) (term_value y))
binary_back (Some binary.Subscribe) x y = watch_back (λ t l. command.Subscribe t l true) x
binary_back (Some binary.TableInfo) x y = command.TableInfo (name_back x) (item_back y)
binary_back (Some binary.Transaction) x y = command.OneShot (inner_parts x) (number_back y)
binary_back b x y = command.Do (op.Read (name_back x) (term_value y))

abbrev call_back : PlainTerms → Command
call_back (one_more (atom w) (one_more x none)) = unary_back (unary_in w) x
call_back (one_more (atom w) (one_more x (one_more y none))) = binary_back (binary_in w) x y
call_back (one_more (atom w) (one_more x (one_more y (one_more z none)))) = command.Do (op.IndexRead (name_back x) (term_value y) (term_value z))
call_back ts = command.Begin

abbrev command_of : PlainTerm → Command
command_of (atom w) = if bytes_eq w (codes "begin") then command.Begin else command.Commit
command_of (tuple ts) = call_back ts
command_of t = command.Begin

abbrev word_back : List ℕ → Request
word_back w =
    if bytes_eq w (codes "join") then ask.Join tt
    else (if bytes_eq w (codes "leave") then ask.Leave
    else (if bytes_eq w (codes "retry") then ask.Retry
    else (if bytes_eq w (codes "take") then ask.Take else ask.Do (command_of (atom w)))))

abbrev request_of : PlainTerm → Request
request_of (atom w) = word_back w
request_of t = ask.Do (command_of t)

-- ---- an operation, as itself, as a part, as a command and as a request

record IsReadBack (o : Operation) : Type 0 where
  pub same : operation_of (operation_term o) ≡ o
  pub part : parts_of (operation_term o) ≡ part.Do (operation_of (operation_term o)) ∷ []
  pub command : command_of (operation_term o) ≡ command.Do (operation_of (operation_term o))
  pub asked : request_of (operation_term o) ≡ ask.Do (command_of (operation_term o))

operation_back : (o : Operation) → IsReadBack o
operation_back (op.Read t k) = record { same = ap (op.Read t) (held_term k); part = refl; command = refl; asked = refl }
operation_back (op.ReadForWrite t k) = record { same = ap (op.ReadForWrite t) (held_term k); part = refl; command = refl; asked = refl }
operation_back (op.Write r) = record { same = ap op.Write (held_term r); part = refl; command = refl; asked = refl }
operation_back (op.Delete t k) = record { same = ap (op.Delete t) (held_term k); part = refl; command = refl; asked = refl }
operation_back (op.DeleteObject r) = record { same = ap op.DeleteObject (held_term r); part = refl; command = refl; asked = refl }
operation_back (op.IndexRead t x a) = record { same = λ i. op.IndexRead t (held_term x i) (held_term a i); part = refl; command = refl; asked = refl }
operation_back (op.MatchObject p) = record { same = ap op.MatchObject (held_term p); part = refl; command = refl; asked = refl }
operation_back (op.AllKeys t) = record { same = refl; part = refl; command = refl; asked = refl }
operation_back (op.ReadLockTable t) = record { same = refl; part = refl; command = refl; asked = refl }
operation_back (op.WriteLockTable t) = record { same = refl; part = refl; command = refl; asked = refl }

-- ---- the parts of a one-shot

-- lists that stand open, innermost first, as parts
abbrev flat : List PlainTerms → List Part
flat [] = []
flat (ts ∷ []) = all_parts ts
flat (ts ∷ us ∷ outer) = all_parts ts ++ part.Close ∷ flat (us ∷ outer)

flat_first : (t : PlainTerm) (ls : List PlainTerms) (n : ℕ) → length ls ≡ suc n → flat (with_first t ls) ≡ parts_of t ++ flat ls
flat_first t [] n h = absurd (omega arith)
flat_first t (ts ∷ []) n h = refl
flat_first t (ts ∷ us ∷ outer) n h = append_assoc (parts_of t) (all_parts ts) (part.Close ∷ flat (us ∷ outer))

length_first : (t : PlainTerm) (ls : List PlainTerms) → length (with_first t ls) ≡ length ls
length_first t [] = refl
length_first t (ts ∷ outer) = refl

flat_enclosed : (ls : List PlainTerms) (n : ℕ) → length ls ≡ suc (suc n) → flat (enclosed ls) ≡ part.Open ∷ flat ls
flat_enclosed [] n h = absurd (omega arith)
flat_enclosed (ts ∷ []) n h = absurd (omega arith)
flat_enclosed (ts ∷ us ∷ outer) n h =
    flat_first (pair (atom (codes "transaction")) (list ts)) (us ∷ outer) (length outer) refl ∙ ap (λ ps. part.Open ∷ ps) (append_assoc (all_parts ts) (part.Close ∷ []) (flat (us ∷ outer)))

length_enclosed : (ls : List PlainTerms) (n : ℕ) → length ls ≡ suc (suc n) → length (enclosed ls) ≡ suc n
length_enclosed [] n h = absurd (omega arith)
length_enclosed (ts ∷ outer) n h = length_first (pair (atom (codes "transaction")) (list ts)) outer ∙ omega (arith, h)

flat_opened : (ls : List PlainTerms) (n : ℕ) → length ls ≡ suc n → flat (none ∷ ls) ≡ part.Close ∷ flat ls
flat_opened [] n h = absurd (omega arith)
flat_opened (ts ∷ outer) n h = refl

-- the lists of parts that leave n transactions open before them
record AreLevels (n : ℕ) (parts : List Part) : Type 0 where
  pub count : length (levels parts) ≡ suc n
  pub back : flat (levels parts) ≡ parts

levels_does : (n : ℕ) (o : Operation) (parts : List Part) → AreLevels n parts → AreLevels n (part.Do o ∷ parts)
levels_does n o parts l = record {
  count = length_first (operation_term o) (levels parts) ∙ l.count;
  back = flat_first (operation_term o) (levels parts) n l.count ∙ ap (λ ps. ps ++ flat (levels parts)) ((operation_back o).part ∙ ap (λ x. part.Do x ∷ []) (operation_back o).same) ∙ ap (λ ps. part.Do o ∷ ps) l.back;
}

levels_abort : (n : ℕ) (r : Term) (parts : List Part) → AreLevels n parts → AreLevels n (part.Abort r ∷ parts)
levels_abort n r parts l = record {
  count = length_first (abort_term (term r)) (levels parts) ∙ l.count;
  back = flat_first (abort_term (term r)) (levels parts) n l.count ∙ ap (λ x. part.Abort x ∷ flat (levels parts)) (held_term r) ∙ ap (λ ps. part.Abort r ∷ ps) l.back;
}

levels_open : (n : ℕ) (parts : List Part) → AreLevels (suc n) parts → AreLevels n (part.Open ∷ parts)
levels_open n parts l = record {
  count = length_enclosed (levels parts) n l.count;
  back = flat_enclosed (levels parts) n l.count ∙ ap (λ ps. part.Open ∷ ps) l.back;
}

levels_close : (n : ℕ) (parts : List Part) → AreLevels n parts → AreLevels (suc n) (part.Close ∷ parts)
levels_close n parts l = record {
  count = ap suc l.count;
  back = flat_opened (levels parts) n l.count ∙ ap (λ ps. part.Close ∷ ps) l.back;
}

levels_back : (n : ℕ) (parts : List Part) → is_nested n parts ≡ true → AreLevels n parts
levels_back zero [] h = record { count = refl; back = refl }
levels_back (suc n) [] h = absurd cc
levels_back zero (part.Do o ∷ parts) h = levels_does zero o parts (levels_back zero parts h)
levels_back (suc n) (part.Do o ∷ parts) h = levels_does (suc n) o parts (levels_back (suc n) parts h)
levels_back zero (part.Abort r ∷ parts) h = levels_abort zero r parts (levels_back zero parts h)
levels_back (suc n) (part.Abort r ∷ parts) h = levels_abort (suc n) r parts (levels_back (suc n) parts h)
levels_back zero (part.Open ∷ parts) h = levels_open zero parts (levels_back (suc zero) parts h)
levels_back (suc n) (part.Open ∷ parts) h = levels_open (suc n) parts (levels_back (suc (suc n)) parts h)
levels_back zero (part.Close ∷ parts) h = absurd cc
levels_back (suc n) (part.Close ∷ parts) h = levels_close n parts (levels_back n parts h)

outermost_back : (ls : List PlainTerms) → length ls ≡ 1 → all_parts (outermost ls) ≡ flat ls
outermost_back [] h = absurd (omega arith)
outermost_back (ts ∷ []) h = refl
outermost_back (ts ∷ us ∷ outer) h = absurd (omega arith)

pub parts_back : (parts : List Part) → is_nested 0 parts ≡ true → all_parts (outermost (levels parts)) ≡ parts
parts_back parts h = let l = levels_back 0 parts h in outermost_back (levels parts) l.count ∙ l.back

-- ---- commands

level_is : (l : Level) → level_back (level_word l) ≡ l
level_is Simple = refl
level_is Detailed = refl

item_is : (i : InfoItem) → item_back (item_word i) ≡ i
item_is item.Kind = refl
item_is item.Attributes = refl
item_is item.Index = refl
item_is item.Size = refl

pub command_back : (c : Command) → is_command c ≡ true → command_of (term_of c) ≡ c
command_back (command.Schema (schema.Create t options)) h = refl
command_back (command.Schema (schema.Remove t)) h = refl
command_back (command.Schema (schema.AddIndex t a)) h = ap (λ x. command.Schema (schema.AddIndex t x)) (held_term a)
command_back (command.Schema (schema.DelIndex t a)) h = ap (λ x. command.Schema (schema.DelIndex t x)) (held_term a)
command_back (command.TableInfo t i) h = ap (command.TableInfo t) (item_is i)
command_back command.Begin h = refl
command_back command.Commit h = refl
command_back (command.Abort r) h = ap command.Abort (held_term r)
command_back (command.Do o) h = (operation_back o).command ∙ ap command.Do (operation_back o).same
command_back (command.Subscribe t l true) h = ap (λ x. command.Subscribe t x true) (level_is l)
command_back (command.Subscribe t l false) h = ap (λ x. command.Subscribe t x false) (level_is l)
command_back (command.Unsubscribe t l) h = ap (command.Unsubscribe t) (level_is l)
command_back (command.OneShot parts retries) h =
    let p = and_parts (nat_le retries 1000) _ h in
    let q = and_parts (is_nested 0 parts) (list_all is_part parts) p.1 in
    ap (λ ps. command.OneShot ps retries) (parts_back parts q.0)

-- two commands with one term are one
pub commands_apart : (c d : Command) → is_command c ≡ true → is_command d ≡ true → term_of c ≡ term_of d → c ≡ d
commands_apart c d h k e = sym (command_back c h) ∙ ap command_of e ∙ command_back d k

-- ---- requests

request_back : (r : Request) → IsRequest r → request_of (asked_term r) ≡ r
request_back (ask.Join u) h = refl
request_back ask.Leave h = refl
request_back ask.Retry h = refl
request_back ask.Take h = refl
request_back (ask.Do c) h = command_asked c ∙ ap ask.Do (command_back c h)
  where
    command_asked : (c : Command) → request_of (term_of c) ≡ ask.Do (command_of (term_of c))
    command_asked (command.Schema (schema.Create t options)) = refl
    command_asked (command.Schema (schema.Remove t)) = refl
    command_asked (command.Schema (schema.AddIndex t a)) = refl
    command_asked (command.Schema (schema.DelIndex t a)) = refl
    command_asked (command.TableInfo t i) = refl
    command_asked command.Begin = refl
    command_asked command.Commit = refl
    command_asked (command.Abort r) = refl
    command_asked (command.Do o) = (operation_back o).asked
    command_asked (command.Subscribe t l true) = refl
    command_asked (command.Subscribe t l false) = refl
    command_asked (command.Unsubscribe t l) = refl
    command_asked (command.OneShot parts retries) = refl

abbrev pub asked_in : PlainTerm → PlainTerm
asked_in (tuple (one_more n (one_more x none))) = x
asked_in t = t

abbrev session_in : Option ℤ → ℕ
session_in (Some (pos n)) = n
session_in z = 0

pub requests_apart : (m n : ℕ) (a b : Request) → IsRequest a → IsRequest b → request_term m a ≡ request_term n b → (m ≡ n) × (a ≡ b)
requests_apart m n a b h k e =
    (ap (λ t. session_in (number_in t)) e, sym (request_back a h) ∙ ap (λ t. request_of (asked_in t)) e ∙ request_back b k)
