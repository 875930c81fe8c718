pub mod Progress
pub mod Endings
