use Rattle.tab_laws.proofs.Following.{leads_on}
use Rattle.tab_laws.proofs.Retrying.{granted_ends, reached_leads_on, reached_goes_on, reached_granted_ends}
use Rattle.tab_laws.proofs.laws.waits_lead_to_progress.Goals as goal

pub returns-clause-leads : goal.returns-clause-leads
returns-clause-leads c = leads_on

pub returns-clause-reached : goal.returns-clause-reached
returns-clause-reached c = reached_leads_on

pub returns-clause-some : goal.returns-clause-some
returns-clause-some c = reached_goes_on

pub returns-clause-granted : goal.returns-clause-granted
returns-clause-granted c = granted_ends

pub returns-clause-reached_granted : goal.returns-clause-reached_granted
returns-clause-reached_granted c = reached_granted_ends
