pub mod Names
pub mod Drawings
pub mod Limits
