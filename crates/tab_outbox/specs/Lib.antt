pub mod Posts
pub mod Mailboxes
