pub mod Faults
pub mod Payloads
pub mod Replies
pub mod Mirrors
pub mod Endings
pub mod Tables
pub mod Outboxes
pub mod Mailboxes
