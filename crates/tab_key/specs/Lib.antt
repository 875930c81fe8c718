pub mod Agree
pub mod Heads
