pub mod Joined
pub mod Calls
pub mod Demand3
