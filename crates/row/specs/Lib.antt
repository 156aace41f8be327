pub mod Row
pub mod Colors
