pub mod Named
pub mod Newer
pub mod OneTable
pub mod Redefines
