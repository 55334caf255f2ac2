pub mod Lines
pub mod Whole
