pub mod ListsLemmas
pub mod AnswersLemmas
pub mod EventsLemmas
pub mod MergedLemmas
pub mod WalkLemmas
pub mod PassedLemmas
pub mod Crossing
