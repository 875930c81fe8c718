pub mod Plain
pub mod Questions
pub mod Members
pub mod Spots
pub mod Filled
pub mod Numbered
pub mod Placed
