pub mod Search
pub mod Tabulate
