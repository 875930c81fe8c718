pub mod MailboxLemmas
pub mod MirrorsLemmas
pub mod OutboxesLemmas
pub mod SpellingLemmas
