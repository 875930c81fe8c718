pub mod Queue
pub mod Decisions
