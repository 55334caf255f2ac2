pub mod Decided
pub mod Decisions
pub mod Outputs
mod Open
mod EntryRows
