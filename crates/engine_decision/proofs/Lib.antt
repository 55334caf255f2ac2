pub mod OneEngine
pub mod InRange
