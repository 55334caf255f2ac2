pub mod Entering
pub mod Year
