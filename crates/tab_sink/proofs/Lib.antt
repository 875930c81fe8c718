pub mod Crossing
pub mod RestsLemmas
