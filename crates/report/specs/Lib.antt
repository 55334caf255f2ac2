pub mod Report
pub mod Shown
pub mod Cases
