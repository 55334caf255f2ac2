pub mod Ranges
pub mod Rows
pub mod Cases
