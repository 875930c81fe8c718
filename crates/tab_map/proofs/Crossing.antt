-- Which maps and sets may cross threads: those whose keys and values may, and may be shared. Of the maps there is a set of rules
-- for `search`.
use denote.RattleType.{RattleType}
use denote.Param.Send.{IsSend, IsSync, sendable}
use denote.Param.SendFields.{as_row_send, as_row_sync, declared_send, declared_sync, variants_send, variants_sync}
use Rattle.std.proofs.Crossing.{Vec-send, Vec-sync, Arc-send, Arc-sync}
use Rattle.std.specs.declared.cmp.Ord as ord
use Rattle.std.specs.declared.cmp.PartialEq as eq
use Rattle.std.specs.declared.cmp.PartialOrd as partial
use Rattle.tab_key.specs.declared.Abbreviate as key
use Rattle.tab_map.proofs.Map.TheLaws.TheKnot.{both_send-Map, both_sync-Map}
use Rattle.tab_map.specs.contracts.Map as Map
use Rattle.tab_map.specs.contracts.entry.Entry as Entry
use Rattle.tab_map.specs.contracts.set.Form as Form
use Rattle.tab_map.specs.contracts.set.Set as Set

module _ (K V : RattleType) (a : key.Ghosts K.Denot) (o : ord.Ghosts K.Denot) (e : eq.Ghosts K.Denot) (p : partial.Ghosts K.Denot) where
  pub Entry-send : IsSend K → IsSync K → IsSend V → IsSync V → IsSend (Entry.the_row K V a o e p)
  Entry-send sk yk sv yv = search (Arc-send, sendable) depth 20

  pub Entry-sync : IsSend K → IsSync K → IsSend V → IsSync V → IsSync (Entry.the_row K V a o e p)
  Entry-sync sk yk sv yv = search (Arc-sync, sendable) depth 20

  pub Map-send : IsSend K → IsSync K → IsSend V → IsSync V → IsSend (Map.the_row K V a o e p)
  Map-send sk yk sv yv =
      let s = Entry-send sk yk sv yv in let y = Entry-sync sk yk sv yv in let vs = Vec-send _ s in let vy = Vec-sync _ y in
      both_send-Map K V a o e p (Arc-send _ vs vy) Arc-send s (λ h t _. Vec-send h t) (Arc-sync _ vs vy) Arc-sync y (λ h _ u. Vec-sync h u)

  pub Map-sync : IsSend K → IsSync K → IsSend V → IsSync V → IsSync (Map.the_row K V a o e p)
  Map-sync sk yk sv yv =
      let s = Entry-send sk yk sv yv in let y = Entry-sync sk yk sv yv in let vs = Vec-send _ s in let vy = Vec-sync _ y in
      both_sync-Map K V a o e p (Arc-send _ vs vy) Arc-send s (λ h t _. Vec-send h t) (Arc-sync _ vs vy) Arc-sync y (λ h _ u. Vec-sync h u)

module _ (K : RattleType) (a : key.Ghosts K.Denot) (o : ord.Ghosts K.Denot) (e : eq.Ghosts K.Denot) (p : partial.Ghosts K.Denot) where
  Form-send : IsSend K → IsSync K → IsSend (Form.the_row K a o e p)
  Form-send sk yk = search (sendable, as_row_send, variants_send, Entry-send, Map-send) depth 20

  Form-sync : IsSend K → IsSync K → IsSync (Form.the_row K a o e p)
  Form-sync sk yk = search (sendable, as_row_sync, variants_sync, Entry-sync, Map-sync) depth 20

  pub Set-send : IsSend K → IsSync K → IsSend (Set.the_row K a o e p)
  Set-send sk yk = search (sendable, declared_send, as_row_send, Form-send) depth 20

  pub Set-sync : IsSend K → IsSync K → IsSync (Set.the_row K a o e p)
  Set-sync sk yk = search (sendable, declared_sync, as_row_sync, Form-sync) depth 20

pub ruleset crosses = (Map-send, Map-sync)
