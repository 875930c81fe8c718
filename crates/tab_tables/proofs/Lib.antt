pub mod EventLemmas
pub mod ChangingLemmas
pub mod InfoLemmas
pub mod NamedLemmas
pub mod OneTableLemmas
