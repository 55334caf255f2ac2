pub mod Encode
pub mod Read
pub mod Acceptance
pub mod OneJournal
pub mod Cases
