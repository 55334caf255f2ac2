pub mod Result
pub mod Nearest
pub mod Cases
