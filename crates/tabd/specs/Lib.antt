pub mod Endings
pub mod Served
