pub mod Arity
pub mod CommandTerms
pub mod DirectLemmas
pub mod EventsLemmas
pub mod Outermost
pub mod PartsLemmas
pub mod RequestsApart
