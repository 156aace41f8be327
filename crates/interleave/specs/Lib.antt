pub mod Apart
pub mod Order
