pub mod Outcomes
pub mod Cases
pub mod Run
pub mod NoKey
pub mod Steps
pub mod Session
pub mod Preview
pub mod Console
