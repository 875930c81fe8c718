pub mod NamesLemmas
pub mod OptionsLemmas
pub mod PositionsLemmas
