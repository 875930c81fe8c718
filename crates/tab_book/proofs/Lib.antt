pub mod Keeping
pub mod Draining
pub mod Crossing
pub mod Closures
pub mod Releasing
pub mod Replying
pub mod Logging
pub mod Seeing
