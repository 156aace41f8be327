pub mod Copy
pub mod Scroll
pub mod Example
