pub mod Calls
pub mod Attempts
pub mod Parts
pub mod OneShots
