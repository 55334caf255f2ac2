pub mod Cases
pub mod Encoded
pub mod Slots
pub mod Reading
pub mod Exactly
pub mod OneJournal
