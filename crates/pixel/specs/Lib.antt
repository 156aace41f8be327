pub mod PixelOp
pub mod Pixel
pub mod Footprint
