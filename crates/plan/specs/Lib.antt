pub mod Reading
pub mod Table
pub mod Cursor
pub mod State
