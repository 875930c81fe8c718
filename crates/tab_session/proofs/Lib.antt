pub mod AnsweredLemmas
pub mod AnsweredAllLemmas
pub mod ServedLemmas
pub mod ReplayedLemmas
mod BoundedSteps
mod DriverSteps
mod DriverOnce
mod DriverLeaves
mod DriverEnds
mod DriverLogs
mod WorkedOneShots
mod RunLaws
mod AccountsLemmas
mod Joining
pub mod Rereading
