-- Terms of commands: which they are, by word and arity.
use Rattle.std.specs.Prelude.{◌≡◌, ℕ, pos, List, ◌++◌, Bool, true, false, ◌&&◌, ◌||◌, nat_le, codes, Option, Some, None, Result, Ok, Err}
use Rattle.std.specs.Str.{bytes_eq}
use Rattle.std.specs.List.{list_all}
use Rattle.tab_term.specs.View.{term}
use Rattle.tab_term.specs.Data.{PlainTerm, int, atom, tuple, list, PlainTerms, none, one_more, is_atom, is_list}
use Rattle.tab_model.specs.declared.data.Operation.{Operation}
use Rattle.tab_model.specs.declared.data.Command.{Command}
use Rattle.tab_model.specs.declared.data.Part.{Part}
use Rattle.tab_proto.specs.declared.fault.ProtoFault.{ProtoFault}
use Rattle.tab_proto.specs.declared.fault.ProtoFault.TheVariants.{BadCommand, NoMemory}
use Rattle.tab_proto.specs.declared.first_words.Unary.{Unary}
use Rattle.tab_proto.specs.declared.first_words.Unary.TheVariants as unary
use Rattle.tab_proto.specs.declared.first_words.Binary.{Binary}
use Rattle.tab_proto.specs.declared.first_words.Binary.TheVariants as binary
use Rattle.tab_proto.specs.declared.call.Arguments.{Arguments}
use Rattle.tab_proto.specs.declared.call.Arguments.TheVariants.{One, Two, Three}
use Rattle.tab_proto.specs.declared.call.Call.{Call}
use Rattle.tab_proto.specs.FirstWords.{unary_in, binary_in}
use Rattle.tab_proto.specs.Commands.{term_of, operation_term, levels, with_first, is_nested, is_command, is_operation, is_part, is_row, is_attribute}

-- the term is a tuple of two
abbrev pub is_pair : PlainTerm → Bool
is_pair (tuple (one_more x (one_more y none))) = true
is_pair t = false

-- {Tab, Key}
abbrev pub is_place : PlainTerm → Bool
is_place (tuple (one_more (atom t) (one_more k none))) = true
is_place t = false

-- the term is one of the atoms simple and detailed
abbrev pub is_level : PlainTerm → Bool
is_level (atom w) = bytes_eq w (codes "simple") || bytes_eq w (codes "detailed")
is_level t = false

-- {table, Tab, Level}
abbrev pub is_watch : PlainTerm → Bool
is_watch (tuple (one_more (atom w) (one_more (atom t) (one_more l none)))) = bytes_eq w (codes "table") && is_level l
is_watch t = false

-- a subscription's word for a marker that carries the records
abbrev pub is_dump : PlainTerm → Bool
is_dump (atom w) = bytes_eq w (codes "dump")
is_dump t = false

-- the term is one of the atoms type, attributes, index and size
abbrev pub is_item : PlainTerm → Bool
is_item (atom w) = bytes_eq w (codes "type") || (bytes_eq w (codes "attributes") || (bytes_eq w (codes "index") || bytes_eq w (codes "size")))
is_item t = false

-- how often a one-shot may restart
abbrev pub is_retries : PlainTerm → Bool
is_retries (int (pos n)) = nat_le n 1000
is_retries t = false

-- the word of one argument is an operation's, and x is an argument that it takes
abbrev pub is_unary_operation : Unary → PlainTerm → Bool
is_unary_operation unary.Write x = is_row x
is_unary_operation unary.DeleteObject x = is_row x
is_unary_operation unary.MatchObject x = is_row x
is_unary_operation unary.ReadForWrite x = is_place x
is_unary_operation unary.Delete x = is_place x
is_unary_operation unary.AllKeys x = is_atom x
is_unary_operation unary.ReadLockTable x = is_atom x
is_unary_operation unary.WriteLockTable x = is_atom x
is_unary_operation u x = false

-- {Word, X, Key} is a read in table X; any term is a key
abbrev pub is_read_of : List ℕ → PlainTerm → Bool
is_read_of w x = bytes_eq w (codes "read") && is_atom x

-- {Word, X, Value, A} is an index_read in table X, by attribute A; any term is a value
abbrev pub is_ternary : List ℕ → PlainTerm → PlainTerm → Bool
is_ternary w x a = bytes_eq w (codes "index_read") && (is_atom x && is_attribute a)

-- whether the argument is a list of parts matters to an inner transaction alone
abbrev pub is_unary_part : Option Unary → Bool → PlainTerm → Bool
is_unary_part None parts x = false
is_unary_part (Some unary.Abort) parts x = true
is_unary_part (Some unary.Transaction) parts x = parts
is_unary_part (Some u) parts x = is_unary_operation u x

-- the members of a one-shot's list: operations, aborts, and inner transactions
abbrev mutual
  -- the term is a member of a one-shot's list
  pub is_part_term : PlainTerm → Bool
  is_part_term (tuple (one_more (atom w) (one_more x none))) = is_unary_part (unary_in w) (is_parts_list x) x
  is_part_term (tuple (one_more (atom w) (one_more x (one_more y none)))) = is_read_of w x
  is_part_term (tuple (one_more (atom w) (one_more x (one_more y (one_more z none))))) = is_ternary w x z
  is_part_term t = false

  -- the term is a list whose members are all such
  pub is_parts_list : PlainTerm → Bool
  is_parts_list (list ts) = are_parts ts
  is_parts_list t = false

  -- the terms are all such members
  pub are_parts : PlainTerms → Bool
  are_parts none = true
  are_parts (one_more t ts) = is_part_term t && are_parts ts

-- {Word, X} is a command, by its word and X; {transaction, X} is none
abbrev pub is_unary : Option Unary → PlainTerm → Bool
is_unary None x = false
is_unary (Some unary.Abort) x = true
is_unary (Some unary.DeleteTable) x = is_atom x
is_unary (Some unary.Subscribe) x = is_watch x
is_unary (Some unary.Unsubscribe) x = is_watch x
is_unary (Some u) x = is_unary_operation u x

-- {Word, X, Y} is a command, by its word and X and Y
abbrev pub is_binary : Option Binary → PlainTerm → PlainTerm → Bool
is_binary None x y = false
is_binary (Some binary.AddTableIndex) x y = is_atom x && is_attribute y
is_binary (Some binary.CreateTable) x y = is_atom x && is_list y
is_binary (Some binary.DelTableIndex) x y = is_atom x && is_attribute y
is_binary (Some binary.Read) x y = is_atom x
is_binary (Some binary.Subscribe) x y = is_watch x && is_dump y
is_binary (Some binary.TableInfo) x y = is_atom x && is_item y
is_binary (Some binary.Transaction) x y = is_parts_list x && is_retries y

-- the one to three arguments of a call
abbrev pub argument_terms : Arguments → PlainTerms
argument_terms (One x) = one_more (term x) none
argument_terms (Two x y) = one_more (term x) (one_more (term y) none)
argument_terms (Three x y z) = one_more (term x) (one_more (term y) (one_more (term z) none))

-- the tuple of a word and its one to three arguments
abbrev pub call_term : Call → PlainTerm
call_term c = tuple (one_more (atom c.word) (argument_terms c.arguments))

-- the term is a tuple of an atom and one to three more terms
abbrev pub is_call_term : PlainTerm → Bool
is_call_term (tuple (one_more (atom w) (one_more x none))) = true
is_call_term (tuple (one_more (atom w) (one_more x (one_more y none)))) = true
is_call_term (tuple (one_more (atom w) (one_more x (one_more y (one_more z none))))) = true
is_call_term t = false

-- the text is begin or commit
abbrev pub is_one_word : List ℕ → Bool
is_one_word w = bytes_eq w (codes "begin") || bytes_eq w (codes "commit")

-- the elements of a tuple are those of a command of one to three arguments
abbrev pub is_call : PlainTerms → Bool
is_call (one_more (atom w) (one_more x none)) = is_unary (unary_in w) x
is_call (one_more (atom w) (one_more x (one_more y none))) = is_binary (binary_in w) x y
is_call (one_more (atom w) (one_more x (one_more y (one_more z none)))) = is_ternary w x z
is_call ts = false

-- the term is a command; in a one-shot each member has to fit
abbrev pub is_command_term : PlainTerm → Bool
is_command_term (atom w) = is_one_word w
is_command_term (tuple ts) = is_call ts
is_command_term t = false

-- {transaction, Ops, Retries}, whatever the members of Ops are
abbrev pub is_one_shot_term : PlainTerm → Bool
is_one_shot_term (tuple (one_more (atom w) (one_more x (one_more y none)))) = bytes_eq w (codes "transaction") && (is_list x && is_retries y)
is_one_shot_term t = false

-- the term is this operation's, and its arguments are such as it takes
abbrev pub SpellsOperation : Operation → PlainTerm → Type 0
SpellsOperation o t = (operation_term o ≡ t) × (is_operation o ≡ true)

-- the term is this command's, and it is such as a command has to be
abbrev pub Spells : Command → PlainTerm → Type 0
Spells c t = (term_of c ≡ t) × (is_command c ≡ true)

-- what comes with BadCommand, and what with NoMemory
abbrev pub FailsOnlyIf : {A : Type 0} → Type 0 → Type 0 → Result A ProtoFault → Type 0
FailsOnlyIf P M (Ok a) = Unit {0}
FailsOnlyIf P M (Err BadCommand) = P
FailsOnlyIf P M (Err NoMemory) = M

-- what comes with BadCommand, where any call may be refused for memory
abbrev pub RefusesOnlyIf : {A : Type 0} → Type 0 → Result A ProtoFault → Type 0
RefusesOnlyIf P r = FailsOnlyIf P (Unit {0}) r

-- these operations stand first in the innermost transaction that is open before
abbrev pub with_all : PlainTerms → List PlainTerms → List PlainTerms
with_all none outer = outer
with_all (one_more t ts) outer = with_first t (with_all ts outer)

-- parts that say these operations, whatever follows
pub record SaysOperations (parts : List Part) (ts : PlainTerms) : Type 0 where
  pub levels : (rest : List Part) → levels (parts ++ rest) ≡ with_all ts (levels rest)
  pub nested : (n : ℕ) (rest : List Part) → is_nested n (parts ++ rest) ≡ is_nested n rest
  pub formed : list_all is_part parts ≡ true

-- parts that say these operations were added
abbrev pub AddsParts : List Part → List Part → PlainTerms → Type 0
AddsParts old new ts = (parts : List Part) × (new ≡ old ++ parts) × SaysOperations parts ts
