pub mod Columns
pub mod Cases
pub mod Digits
pub mod Written
