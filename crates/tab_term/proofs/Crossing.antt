-- Terms may cross threads and be shared by them. The ring of terms has the law where each of its layers does.
use mathlib.Core.List.{[], ◌∷◌}
use denote.RattleType.{RattleType}
use denote.Struct.Tuple.{Tuple, tuple_type}
use denote.Struct.Field.{row_field, i128-field}
use denote.Param.Send.{IsSend, IsSync, plain_send, plain_sync}
use denote.Param.SendFields.{as_row_send, as_row_sync, declared_send, declared_sync}
use Rattle.std.proofs.Crossing.{Vec-send, Vec-sync}
use Rattle.tab_term.proofs.atom.Atom.TheSendSync as atom_marks
use Rattle.tab_term.proofs.bytes.Bytes.TheSendSync as bytes_marks
use Rattle.tab_term.proofs.term.Pairs.TheLaws.TheKnot.{send-Terms, sync-Terms, send-Term, sync-Term, send-Pairs, sync-Pairs}
use Rattle.tab_term.specs.contracts.atom.Atom as atom
use Rattle.tab_term.specs.contracts.bytes.Bytes as bytes
use Rattle.tab_term.specs.contracts.term.Terms as terms
use Rattle.tab_term.specs.contracts.term.Pairs as pairs
use Rattle.tab_term.specs.contracts.term.Term as term

pair_send : (R : RattleType) → IsSend R → IsSend (Tuple (R ∷ R ∷ []))
pair_send R s = declared_send (tuple_type (R ∷ R ∷ [])) (as_row_send (row_field R) s, (as_row_send (row_field R) s, tt))

pair_sync : (R : RattleType) → IsSync R → IsSync (Tuple (R ∷ R ∷ []))
pair_sync R s = declared_sync (tuple_type (R ∷ R ∷ [])) (as_row_sync (row_field R) s, (as_row_sync (row_field R) s, tt))

pub Terms-send : IsSend terms.the_row
Terms-send =
    send-Terms
    (λ h s. Vec-send (Tuple (h ∷ h ∷ [])) (pair_send h s))
    Vec-send
    (as_row_send i128-field (plain_send _ _ _ _ _))
    (as_row_send atom.the_field atom_marks.the_send)
    (as_row_send bytes.the_field bytes_marks.the_send)

pub Terms-sync : IsSync terms.the_row
Terms-sync =
    sync-Terms
    (λ h s. Vec-sync (Tuple (h ∷ h ∷ [])) (pair_sync h s))
    Vec-sync
    (as_row_sync i128-field (plain_sync _ _ _ _ _))
    (as_row_sync atom.the_field atom_marks.the_sync)
    (as_row_sync bytes.the_field bytes_marks.the_sync)

Pairs-send : IsSend pairs.the_row
Pairs-send =
    send-Pairs
    (λ h s. Vec-send (Tuple (h ∷ h ∷ [])) (pair_send h s))
    Vec-send
    (as_row_send i128-field (plain_send _ _ _ _ _))
    (as_row_send atom.the_field atom_marks.the_send)
    (as_row_send bytes.the_field bytes_marks.the_send)

Pairs-sync : IsSync pairs.the_row
Pairs-sync =
    sync-Pairs
    (λ h s. Vec-sync (Tuple (h ∷ h ∷ [])) (pair_sync h s))
    Vec-sync
    (as_row_sync i128-field (plain_sync _ _ _ _ _))
    (as_row_sync atom.the_field atom_marks.the_sync)
    (as_row_sync bytes.the_field bytes_marks.the_sync)

pub Term-send : IsSend term.the_row
Term-send =
    as_row_send
    term.the_field
    (
    send-Term
    (as_row_send i128-field (plain_send _ _ _ _ _))
    (as_row_send atom.the_field atom_marks.the_send)
    Terms-send
    (as_row_send bytes.the_field bytes_marks.the_send)
    Pairs-send
    )

pub Term-sync : IsSync term.the_row
Term-sync =
    as_row_sync
    term.the_field
    (
    sync-Term
    (as_row_sync i128-field (plain_sync _ _ _ _ _))
    (as_row_sync atom.the_field atom_marks.the_sync)
    Terms-sync
    (as_row_sync bytes.the_field bytes_marks.the_sync)
    Pairs-sync
    )
