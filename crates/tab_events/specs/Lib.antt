pub mod Marks
pub mod Mirrors
