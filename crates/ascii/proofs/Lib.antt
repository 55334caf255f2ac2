pub mod Cases
pub mod Decimal
