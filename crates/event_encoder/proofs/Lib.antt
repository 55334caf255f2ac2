pub mod Appended
pub mod Fits
