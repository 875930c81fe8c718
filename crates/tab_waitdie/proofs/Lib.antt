pub mod Rising
pub mod Deciding
pub mod Places
pub mod Retrying
pub mod Waited
