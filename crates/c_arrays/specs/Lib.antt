pub mod Out
pub mod Settings
