pub mod Written
pub mod Handed
