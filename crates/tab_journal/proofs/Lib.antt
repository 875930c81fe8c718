pub mod FullLemmas
pub mod SurvivorLemmas
pub mod SameLemmas
pub mod AuditLemmas
