pub mod Former
pub mod Joined
pub mod Restored
pub mod Updates
