pub mod LookUps
pub mod NumbersLemmas
pub mod Crossing
