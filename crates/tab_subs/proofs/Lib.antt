pub mod Places
mod Delivering
mod Batches
