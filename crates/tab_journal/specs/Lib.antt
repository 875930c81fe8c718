pub mod Survivors
pub mod Bytes
pub mod Journals
pub mod Audits
