pub mod Following
pub mod Retrying
pub mod Ending
