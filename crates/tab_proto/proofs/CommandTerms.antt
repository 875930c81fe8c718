-- The term of every command is known as a command's.
use Rattle.std.proofs.Common.{◌≡◌, List, [], ◌∷◌, Bool, true, false, refl, ◌∙◌}
use Rattle.std.specs.Prelude.{Result, Ok, Err, IfOk}
use Rattle.std.specs.Prelude.{codes, ◌||◌}
use Rattle.std.specs.Str.{bytes_eq}
use Rattle.std.specs.List.{list_all}
use Rattle.std.proofs.lemmas.Bool.{and_from, and_parts}
use Rattle.tab_term.specs.Data.{PlainTerm, atom, tuple, PlainTerms}
use Rattle.tab_model.specs.declared.ask.Ask.TheVariants as ask
use Rattle.tab_proto.specs.Requests.{Request, asked_term, IsRequest, is_asked}
use Rattle.tab_model.specs.declared.data.Operation.{Operation}
use Rattle.tab_model.specs.declared.data.Operation.TheVariants as op
use Rattle.tab_model.specs.declared.data.Schema.{Schema}
use Rattle.tab_model.specs.declared.data.Schema.TheVariants as schema
use Rattle.tab_model.specs.declared.data.Level.{Level}
use Rattle.tab_model.specs.declared.data.Level.TheVariants.{Simple, Detailed}
use Rattle.tab_model.specs.declared.data.InfoItem.{InfoItem}
use Rattle.tab_model.specs.declared.data.InfoItem.TheVariants as item
use Rattle.tab_model.specs.declared.data.Part.{Part}
use Rattle.tab_model.specs.declared.data.Part.TheVariants as part
use Rattle.tab_model.specs.declared.data.Command.{Command}
use Rattle.tab_model.specs.declared.data.Command.TheVariants as command
use Rattle.tab_proto.specs.Commands.{term_of, operation_term, schema_term, level_word, item_word, with_first, enclosed, levels, outermost, is_command, is_operation, is_schema, is_part, is_nested}
use Rattle.tab_proto.specs.Reading.{is_level, is_item, is_part_term, are_parts, is_command_term}

-- ---- the members of a one-shot

record IsKnown (o : Operation) : Type 0 where
  pub part : is_part_term (operation_term o) ≡ is_operation o
  pub command : is_command_term (operation_term o) ≡ is_operation o

operation_is_known : (o : Operation) → IsKnown o
operation_is_known (op.Read t k) = record { part = refl; command = refl }
operation_is_known (op.ReadForWrite t k) = record { part = refl; command = refl }
operation_is_known (op.Write r) = record { part = refl; command = refl }
operation_is_known (op.Delete t k) = record { part = refl; command = refl }
operation_is_known (op.DeleteObject r) = record { part = refl; command = refl }
operation_is_known (op.IndexRead t x a) = record { part = refl; command = refl }
operation_is_known (op.MatchObject p) = record { part = refl; command = refl }
operation_is_known (op.AllKeys t) = record { part = refl; command = refl }
operation_is_known (op.ReadLockTable t) = record { part = refl; command = refl }
operation_is_known (op.WriteLockTable t) = record { part = refl; command = refl }

abbrev AllParts : List PlainTerms → Type 0
AllParts [] = Unit {0}
AllParts (ts ∷ outer) = (are_parts ts ≡ true) × AllParts outer

first_is : (t : PlainTerm) (ls : List PlainTerms) → is_part_term t ≡ true → AllParts ls → AllParts (with_first t ls)
first_is t [] h k = tt
first_is t (ts ∷ outer) h k = (and_from (is_part_term t) (are_parts ts) h k.0, k.1)

enclosed_is : (ls : List PlainTerms) → AllParts ls → AllParts (enclosed ls)
enclosed_is [] h = tt
enclosed_is (ts ∷ outer) h = first_is _ outer h.0 h.1

levels_are : (parts : List Part) → list_all is_part parts ≡ true → AllParts (levels parts)
levels_are [] h = (refl, tt)
levels_are (part.Do o ∷ parts) h = let p = and_parts (is_operation o) (list_all is_part parts) h in first_is (operation_term o) (levels parts) ((operation_is_known o).part ∙ p.0) (levels_are parts p.1)
levels_are (part.Abort r ∷ parts) h = first_is _ (levels parts) refl (levels_are parts h)
levels_are (part.Open ∷ parts) h = enclosed_is (levels parts) (levels_are parts h)
levels_are (part.Close ∷ parts) h = (refl, levels_are parts h)

outermost_is : (ls : List PlainTerms) → AllParts ls → are_parts (outermost ls) ≡ true
outermost_is [] h = refl
outermost_is (ts ∷ []) h = h.0
outermost_is (ts ∷ us ∷ outer) h = outermost_is (us ∷ outer) h.1

-- ---- commands

level_is : (l : Level) → is_level (level_word l) ≡ true
level_is Simple = refl
level_is Detailed = refl

item_is : (i : InfoItem) → is_item (item_word i) ≡ true
item_is item.Kind = refl
item_is item.Attributes = refl
item_is item.Index = refl
item_is item.Size = refl

schema_is_known : (s : Schema) → is_schema s ≡ true → is_command_term (schema_term s) ≡ true
schema_is_known (schema.Create t options) h = refl
schema_is_known (schema.Remove t) h = refl
schema_is_known (schema.AddIndex t a) h = h
schema_is_known (schema.DelIndex t a) h = h

pub command_is_known : (c : Command) → is_command c ≡ true → is_command_term (term_of c) ≡ true
command_is_known (command.Schema s) h = schema_is_known s h
command_is_known (command.TableInfo t i) h = item_is i
command_is_known command.Begin h = refl
command_is_known command.Commit h = refl
command_is_known (command.Abort r) h = refl
command_is_known (command.Do o) h = (operation_is_known o).command ∙ h
command_is_known (command.Subscribe t l true) h = and_from _ _ (level_is l) refl
command_is_known (command.Subscribe t l false) h = level_is l
command_is_known (command.Unsubscribe t l) h = level_is l
command_is_known (command.OneShot parts retries) h =
    let p = and_parts (Rattle.std.specs.Prelude.nat_le retries 1000) _ h in
    let q = and_parts (is_nested 0 parts) (list_all is_part parts) p.1 in
    and_from _ _ (outermost_is (levels parts) (levels_are parts q.1)) p.0

-- ---- requests

asked_command : (t : PlainTerm) → is_command_term t ≡ true → is_asked t ≡ true
asked_command (atom w) h = or_last (bytes_eq w (codes "join")) (or_last (bytes_eq w (codes "leave")) (or_last (bytes_eq w (codes "retry")) (or_last (bytes_eq w (codes "take")) h)))
  where
    or_last : (a : Bool) {b : Bool} → b ≡ true → (a || b) ≡ true
    or_last true h = refl
    or_last false h = h
asked_command (tuple ts) h = h
asked_command t h = absurd cc

pub request_is_known : (r : Request) → IsRequest r → is_asked (asked_term r) ≡ true
request_is_known (ask.Join u) h = refl
request_is_known ask.Leave h = refl
request_is_known ask.Retry h = refl
request_is_known ask.Take h = refl
request_is_known (ask.Do c) h = asked_command (term_of c) (command_is_known c h)
