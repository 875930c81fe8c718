pub mod Overlays
pub mod Stores
pub mod Kept
pub mod Merged
pub mod Answers
