pub mod Numbers
pub mod Exports
pub mod Cases
