pub mod Extent
pub mod Reach
