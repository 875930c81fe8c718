pub mod Sends
pub mod Rests
pub mod Bytes
