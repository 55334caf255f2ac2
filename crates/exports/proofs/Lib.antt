pub mod Cases
pub mod Apart
pub mod Previews
