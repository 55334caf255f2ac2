pub mod Again
pub mod Front
pub mod Lender
pub mod Form
pub mod HandsBack
