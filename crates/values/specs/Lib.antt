pub mod Block
pub mod Tests
