pub mod Carried
pub mod Steps
