pub mod Subscribers
pub mod Deliveries
pub mod Lending
