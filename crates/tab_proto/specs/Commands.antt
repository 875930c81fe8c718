-- The terms of commands: each is a call of the Mnesia Reference Manual with the function's name as its first word.
-- (That begin and commit are calls of their own, the parts of a one-shot, and a subscription's `dump` are this project's own
-- rules.)
use Rattle.std.specs.Prelude.{ℕ, zero, suc, List, [], ◌∷◌, Bool, true, false, ◌&&◌, nat_le, codes, pos}
use Rattle.std.specs.List.{list_all}
use Rattle.tab_term.specs.Data.{PlainTerm, int, atom, tuple, list, PlainTerms, none, one_more, pair, triple}
use Rattle.tab_term.specs.View.{term}
use Rattle.tab_model.specs.declared.data.Operation.{Operation}
use Rattle.tab_model.specs.declared.data.Operation.TheVariants as op
use Rattle.tab_model.specs.declared.data.Schema.{Schema}
use Rattle.tab_model.specs.declared.data.Schema.TheVariants as schema
use Rattle.tab_model.specs.declared.data.Level.{Level}
use Rattle.tab_model.specs.declared.data.Level.TheVariants.{Simple, Detailed}
use Rattle.tab_model.specs.declared.data.InfoItem.{InfoItem}
use Rattle.tab_model.specs.declared.data.InfoItem.TheVariants as item
use Rattle.tab_model.specs.declared.data.Part.{Part}
use Rattle.tab_model.specs.declared.data.Part.TheVariants as part
use Rattle.tab_model.specs.declared.data.Command.{Command}
use Rattle.tab_model.specs.declared.data.Command.TheVariants as command

-- the tuple of four terms
abbrev pub four : PlainTerm → PlainTerm → PlainTerm → PlainTerm → PlainTerm
four a b c d = tuple (one_more a (one_more b (one_more c (one_more d none))))

-- the term of a command on tables
abbrev pub schema_term : Schema → PlainTerm
schema_term (schema.Create t options) = triple (atom (codes "create_table")) (atom t) (list options)
schema_term (schema.Remove t) = pair (atom (codes "delete_table")) (atom t)
schema_term (schema.AddIndex t a) = triple (atom (codes "add_table_index")) (atom t) (term a)
schema_term (schema.DelIndex t a) = triple (atom (codes "del_table_index")) (atom t) (term a)

-- the term of an operation
abbrev pub operation_term : Operation → PlainTerm
operation_term (op.Read t k) = triple (atom (codes "read")) (atom t) (term k)
operation_term (op.ReadForWrite t k) = pair (atom (codes "wread")) (pair (atom t) (term k))
operation_term (op.Write r) = pair (atom (codes "write")) (term r)
operation_term (op.Delete t k) = pair (atom (codes "delete")) (pair (atom t) (term k))
operation_term (op.DeleteObject r) = pair (atom (codes "delete_object")) (term r)
operation_term (op.IndexRead t x a) = four (atom (codes "index_read")) (atom t) (term x) (term a)
operation_term (op.MatchObject p) = pair (atom (codes "match_object")) (term p)
operation_term (op.AllKeys t) = pair (atom (codes "all_keys")) (atom t)
operation_term (op.ReadLockTable t) = pair (atom (codes "read_lock_table")) (atom t)
operation_term (op.WriteLockTable t) = pair (atom (codes "write_lock_table")) (atom t)

-- the atom of a subscription's level
abbrev pub level_word : Level → PlainTerm
level_word Simple = atom (codes "simple")
level_word Detailed = atom (codes "detailed")

-- what is subscribed to
abbrev pub watch_term : List ℕ → Level → PlainTerm
watch_term t l = triple (atom (codes "table")) (atom t) (level_word l)

-- the atom that says what of a table is asked for
abbrev pub item_word : InfoItem → PlainTerm
item_word item.Kind = atom (codes "type")
item_word item.Attributes = atom (codes "attributes")
item_word item.Index = atom (codes "index")
item_word item.Size = atom (codes "size")

-- {abort, Reason}
abbrev pub abort_term : PlainTerm → PlainTerm
abort_term r = pair (atom (codes "abort")) r

-- one more operation in the innermost transaction whose operations stand first
abbrev pub with_first : PlainTerm → List PlainTerms → List PlainTerms
with_first t [] = []
with_first t (ts ∷ outer) = one_more t ts ∷ outer

-- the innermost transaction becomes an operation of the one around it
abbrev pub enclosed : List PlainTerms → List PlainTerms
enclosed [] = []
enclosed (ts ∷ outer) = with_first (pair (atom (codes "transaction")) (list ts)) outer

-- the operations of the transactions that stand open before these parts, innermost first
abbrev pub levels : List Part → List PlainTerms
levels [] = none ∷ []
levels (part.Do o ∷ parts) = with_first (operation_term o) (levels parts)
levels (part.Abort r ∷ parts) = with_first (abort_term (term r)) (levels parts)
levels (part.Open ∷ parts) = enclosed (levels parts)
levels (part.Close ∷ parts) = none ∷ levels parts

-- the last of these lists, which is the outermost transaction's; none where there is no list
abbrev pub outermost : List PlainTerms → PlainTerms
outermost [] = none
outermost (ts ∷ []) = ts
outermost (ts ∷ outer) = outermost outer

-- the term of a command, without a session's number
abbrev pub term_of : Command → PlainTerm
term_of (command.Schema c) = schema_term c
term_of (command.TableInfo t i) = triple (atom (codes "table_info")) (atom t) (item_word i)
term_of command.Begin = atom (codes "begin")
term_of command.Commit = atom (codes "commit")
term_of (command.Abort r) = abort_term (term r)
term_of (command.Do o) = operation_term o
term_of (command.Subscribe t l false) = pair (atom (codes "subscribe")) (watch_term t l)
term_of (command.Subscribe t l true) = triple (atom (codes "subscribe")) (watch_term t l) (atom (codes "dump"))
term_of (command.Unsubscribe t l) = pair (atom (codes "unsubscribe")) (watch_term t l)
term_of (command.OneShot parts retries) = triple (atom (codes "transaction")) (list (outermost (levels parts))) (int (pos retries))

-- a record or a pattern: a tuple of arity 2 or more whose first element is an atom, the table's name
abbrev pub is_row : PlainTerm → Bool
is_row (tuple (one_more (atom t) (one_more x xs))) = true
is_row t = false

-- an attribute is named by an atom or by its position
abbrev pub is_attribute : PlainTerm → Bool
is_attribute (atom name) = true
is_attribute (int z) = true
is_attribute t = false

-- an operation's record or pattern is a row, and its attribute an atom or an integer
abbrev pub is_operation : Operation → Bool
is_operation (op.Write r) = is_row (term r)
is_operation (op.DeleteObject r) = is_row (term r)
is_operation (op.MatchObject p) = is_row (term p)
is_operation (op.IndexRead t x a) = is_attribute (term a)
is_operation o = true

-- the attribute of an index is an atom or an integer
abbrev pub is_schema : Schema → Bool
is_schema (schema.AddIndex t a) = is_attribute (term a)
is_schema (schema.DelIndex t a) = is_attribute (term a)
is_schema c = true

-- a part that is an operation is such a one; every other part is well formed
abbrev pub is_part : Part → Bool
is_part (part.Do o) = is_operation o
is_part p = true

-- each Close ends a transaction that an Open began, and none is left open; so many are open before these parts
abbrev pub is_nested : ℕ → List Part → Bool
is_nested zero [] = true
is_nested (suc n) [] = false
is_nested n (part.Open ∷ parts) = is_nested (suc n) parts
is_nested zero (part.Close ∷ parts) = false
is_nested (suc n) (part.Close ∷ parts) = is_nested n parts
is_nested n (part.Do o ∷ parts) = is_nested n parts
is_nested n (part.Abort r ∷ parts) = is_nested n parts

-- what a command has to be to have one of these forms
abbrev pub is_command : Command → Bool
is_command (command.Schema c) = is_schema c
is_command (command.Do o) = is_operation o
is_command (command.OneShot parts retries) = nat_le retries 1000 && (is_nested 0 parts && list_all is_part parts)
is_command c = true
