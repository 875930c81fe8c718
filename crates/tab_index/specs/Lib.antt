pub mod IndexOf
pub mod FurtherOf
pub mod BoundKey
pub mod Indexed
pub mod Pairs
