pub mod Telling
pub mod HandingIn
pub mod Attempting
pub mod LastReplies
