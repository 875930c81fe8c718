pub mod Entries
pub mod InOrder
pub mod KeyList
pub mod Sets
pub mod Places
pub mod TreeFalls
pub mod Revised
pub mod Ahead
