pub mod Commands
pub mod Reading
pub mod Requests
pub mod Replies
pub mod FirstWords
pub mod Events
