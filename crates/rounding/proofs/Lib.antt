pub mod Cases
pub mod Nearest
