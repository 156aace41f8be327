pub mod Tables
pub mod Time
