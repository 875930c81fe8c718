pub mod Logs
pub mod Running
pub mod Steps
pub mod Inboxes
pub mod Releases
pub mod Transitions
pub mod Replies
