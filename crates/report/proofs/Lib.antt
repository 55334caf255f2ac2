pub mod Ranges
pub mod Shown
pub mod Cases
