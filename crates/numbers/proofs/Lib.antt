pub mod Cases
mod Sequence
