-- The first words of commands: calls of the Mnesia Reference Manual, and this project's own.
use Rattle.std.specs.Prelude.{ℕ, List, [], ◌∷◌, Option, codes, find}
use Rattle.std.specs.Str.{bytes_eq}
use Rattle.tab_proto.specs.declared.first_words.Unary.{Unary}
use Rattle.tab_proto.specs.declared.first_words.Unary.TheVariants as unary
use Rattle.tab_proto.specs.declared.first_words.Binary.{Binary}
use Rattle.tab_proto.specs.declared.first_words.Binary.TheVariants as binary

-- the text of a first word that one argument follows
abbrev pub unary_text : Unary → List ℕ
unary_text unary.Abort = codes "abort"
unary_text unary.AllKeys = codes "all_keys"
unary_text unary.Delete = codes "delete"
unary_text unary.DeleteObject = codes "delete_object"
unary_text unary.DeleteTable = codes "delete_table"
unary_text unary.MatchObject = codes "match_object"
unary_text unary.ReadForWrite = codes "wread"
unary_text unary.ReadLockTable = codes "read_lock_table"
unary_text unary.Subscribe = codes "subscribe"
unary_text unary.Transaction = codes "transaction"
unary_text unary.Unsubscribe = codes "unsubscribe"
unary_text unary.Write = codes "write"
unary_text unary.WriteLockTable = codes "write_lock_table"

-- all first words that one argument follows
abbrev pub all_unary : List Unary
all_unary = unary.Abort ∷ unary.AllKeys ∷ unary.Delete ∷ unary.DeleteObject ∷ unary.DeleteTable ∷ unary.MatchObject ∷ unary.ReadForWrite ∷ unary.ReadLockTable ∷ unary.Subscribe ∷ unary.Transaction ∷ unary.Unsubscribe ∷ unary.Write ∷ unary.WriteLockTable ∷ []

-- the word that has this text
abbrev pub unary_in : List ℕ → Option Unary
unary_in w = find (λ u. bytes_eq w (unary_text u)) all_unary

-- the text of a first word that two arguments follow
abbrev pub binary_text : Binary → List ℕ
binary_text binary.AddTableIndex = codes "add_table_index"
binary_text binary.CreateTable = codes "create_table"
binary_text binary.DelTableIndex = codes "del_table_index"
binary_text binary.Read = codes "read"
binary_text binary.Subscribe = codes "subscribe"
binary_text binary.TableInfo = codes "table_info"
binary_text binary.Transaction = codes "transaction"

-- all first words that two arguments follow
abbrev pub all_binary : List Binary
all_binary = binary.AddTableIndex ∷ binary.CreateTable ∷ binary.DelTableIndex ∷ binary.Read ∷ binary.Subscribe ∷ binary.TableInfo ∷ binary.Transaction ∷ []

-- the word of two arguments that has this text
abbrev pub binary_in : List ℕ → Option Binary
binary_in w = find (λ b. bytes_eq w (binary_text b)) all_binary
