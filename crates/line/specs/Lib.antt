pub mod Line
pub mod Tests
pub mod Words
