pub mod Bounds
pub mod Newton
pub mod Room
pub mod OneMore
pub mod Table
pub mod Near
pub mod Cut
pub mod Cases
